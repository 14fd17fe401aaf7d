-- The cases P1 to P9 as data: a job, a plan, and what find's contract owes them: the 64-bit number, and the buffer afterwards.
use Rattle.std.specs.Prelude.{ℕ, ◌≤◌, ◌≡◌, length, drop}
use mathlib.Core.List.{List, [], ◌∷◌, ◌++◌, Memᴰ}
use Rattle.model.specs.declared.Triple.{Triple}
use Rattle.planreader.specs.Promised.{Promised}

-- a row refuses, with number and position; or the plan passes, these triples have a reading, and the root has none, or this reading alone
pub data Expected : Type 0 where
  refuses : ℕ → ℕ → Expected
  unread : List Triple → Expected
  reads : List ℕ → List Triple → Expected

-- the number is the packed one: refusal number in bits 63..56, position in 55..40, length in 39..24, count in 23..0
pub record Case : Type 0 where
  pub job : List ℕ
  pub starts : List ℕ
  pub facts : List ℕ
  pub expected : Expected
  pub number : ℕ

abbrev pub triple : ℕ → ℕ → ℕ → Triple
triple p b e = record { node = p; begin = b; end = e }

-- P1: an act, and its start
abbrev pub p1 : Case
p1 = record {
  job = 0x10010101 ∷ 0x20000040 ∷ 0x30000001 ∷ 0x40000080 ∷ 0x60000000 ∷ [];
  starts = 0x90000000 ∷ [];
  facts = 0xa0000001 ∷ 0xa0000080 ∷ [];
  expected = reads (0xb0000001 ∷ []) (triple 0 0 1 ∷ []);
  number = 0x0000000001000001;
}

-- P2: two acts in sequence over that one start
abbrev pub p2 : Case
p2 = record {
  job = 0x10010101 ∷ 0x20000040 ∷ 0x30000001 ∷ 0x40000080 ∷ 0x60000000 ∷ 0x60000000 ∷ 0x62001000 ∷ [];
  starts = 0x90000000 ∷ [];
  facts = 0xa0000001 ∷ 0xa0000080 ∷ [];
  expected = unread (triple 0 0 1 ∷ triple 1 0 1 ∷ []);
  number = 0x0d00000000000002;
}

-- P3: Example 3 of 004 with the theory of its Example 1, without its fourth action d, which no start uses. Fluents 0, 1, 2 are f, g, h, all
-- initially false; actions 0, 1, 2 are b (lasts 2, makes h), c (lasts 2, makes g) and a (lasts 3, needs g and h, makes f); b start window 0..0 c,
-- end window 0..0 a. The facts are 004's six states
abbrev pub p3 : Case
p3 = record {
  job = 0x10030305 ∷ 0x20000040 ∷ 0x20000041 ∷ 0x20000042 ∷ 0x30000002 ∷ 0x40000082 ∷ 0x30000042 ∷ 0x40000081
      ∷ 0x30000083 ∷ 0x40000001 ∷ 0x40000002 ∷ 0x40000080 ∷ 0x60000000 ∷ 0x60040000 ∷ 0x66001000 ∷ 0x60080000 ∷ 0x67083000 ∷ [];
  starts = 0x90000000 ∷ 0x90000001 ∷ 0x90000082 ∷ [];
  facts = 0xa0000001 ∷ 0xa0000003 ∷ 0xa0000005 ∷ 0xa0000081 ∷ 0xa0000101 ∷ 0xa0000102 ∷ 0xa0000104 ∷ 0xa0000182 ∷ 0xa0000184
      ∷ 0xa0000202 ∷ 0xa0000204 ∷ 0xa0000280 ∷ 0xa0000282 ∷ 0xa0000284 ∷ [];
  expected = reads (0xb0004005 ∷ 0xb0002002 ∷ 0xb0000002 ∷ 0xb0001002 ∷ 0xb0003085 ∷ [])
      (triple 0 0 2 ∷ triple 1 0 2 ∷ triple 2 0 2 ∷ triple 3 2 5 ∷ triple 4 0 5 ∷ []);
  number = 0x0000000005000005;
}

-- P4: n = 0, a true test
abbrev pub p4 : Case
p4 = record {
  job = 0x10010100 ∷ 0x30000001 ∷ 0x50000000 ∷ 0x61000000 ∷ [];
  starts = [];
  facts = [];
  expected = reads (0xb0000000 ∷ []) (triple 0 0 0 ∷ []);
  number = 0x0000000001000001;
}

-- P5: if on an open formula, both branches true tests
abbrev pub p5 : Case
p5 = record {
  job = 0x10010100 ∷ 0x30000001 ∷ 0x51000000 ∷ 0x50000000 ∷ 0x61040000 ∷ 0x61040000 ∷ 0x64000040 ∷ [];
  starts = [];
  facts = [];
  expected = unread (triple 0 0 0 ∷ triple 1 0 0 ∷ []);
  number = 0x0d00000000000002;
}

-- P6: a loop whose formula fails at 0, n = 0
abbrev pub p6 : Case
p6 = record {
  job = 0x10010100 ∷ 0x20000040 ∷ 0x30000001 ∷ 0x51000000 ∷ 0x60000000 ∷ 0x65000000 ∷ [];
  starts = [];
  facts = 0xa0000001 ∷ [];
  expected = reads (0xb0001000 ∷ []) (triple 1 0 0 ∷ []);
  number = 0x0000000001000001;
}

-- P7: d = 2 and n = 2; a finish on n is lawful, one on n + 1 is not
abbrev pub job7 : List ℕ
job7 = 0x10010102 ∷ 0x20000040 ∷ 0x30000002 ∷ 0x40000080 ∷ 0x60000000 ∷ []

abbrev pub p7 : Case
p7 = record {
  job = job7;
  starts = 0x90000000 ∷ [];
  facts = 0xa0000001 ∷ 0xa0000100 ∷ [];
  expected = reads (0xb0000002 ∷ []) (triple 0 0 2 ∷ []);
  number = 0x0000000001000001;
}

abbrev pub p7late : Case
p7late = record { job = job7; starts = 0x90000040 ∷ []; facts = []; expected = refuses 7 0; number = 0x0700000000000000 }

-- P8: d = 2; a restart at v + d is lawful, one sooner is not
abbrev pub job8 : List ℕ
job8 = 0x10010104 ∷ 0x20000040 ∷ 0x30000002 ∷ 0x40000080 ∷ 0x60000000 ∷ 0x60000000 ∷ 0x62001000 ∷ []

abbrev pub p8 : Case
p8 = record {
  job = job8;
  starts = 0x90000000 ∷ 0x90000080 ∷ [];
  facts = 0xa0000001 ∷ 0xa0000100 ∷ 0xa0000200 ∷ [];
  expected = reads (0xb0002004 ∷ 0xb0000002 ∷ 0xb0001084 ∷ [])
      (triple 0 0 2 ∷ triple 0 2 4 ∷ triple 1 0 2 ∷ triple 1 2 4 ∷ triple 2 0 4 ∷ []);
  number = 0x0000000003000005;
}

abbrev pub p8soon : Case
p8soon = record { job = job8; starts = 0x90000000 ∷ 0x90000040 ∷ []; facts = []; expected = refuses 8 1; number = 0x0800010000000000 }

-- P9: a task set of two acts, on 0..1 and 2..3 with n = 3, and on 0..1 and 3..4 with n = 4
abbrev pub p9 : Case
p9 = record {
  job = 0x10010203 ∷ 0x30000001 ∷ 0x30000041 ∷ 0x60000000 ∷ 0x60040000 ∷ 0x68000000 ∷ 0x70000000 ∷ 0x70000001 ∷ [];
  starts = 0x90000000 ∷ 0x90000081 ∷ [];
  facts = [];
  expected = reads (0xb0002003 ∷ 0xb0000001 ∷ 0xb0001083 ∷ []) (triple 0 0 1 ∷ triple 1 2 3 ∷ triple 2 0 3 ∷ []);
  number = 0x0000000003000003;
}

abbrev pub p9gap : Case
p9gap = record {
  job = 0x10010204 ∷ 0x30000001 ∷ 0x30000041 ∷ 0x60000000 ∷ 0x60040000 ∷ 0x68000000 ∷ 0x70000000 ∷ 0x70000001 ∷ [];
  starts = 0x90000000 ∷ 0x900000c1 ∷ [];
  facts = [];
  expected = unread (triple 0 0 1 ∷ triple 1 3 4 ∷ []);
  number = 0x0d00000000000002;
}

abbrev pub table : List Case
table = p1 ∷ p2 ∷ p3 ∷ p4 ∷ p5 ∷ p6 ∷ p7 ∷ p7late ∷ p8 ∷ p8soon ∷ p9 ∷ p9gap ∷ []

-- the buffer afterwards: the reading's words in front, and else as it was
abbrev pub buffer_after : Expected → List ℕ → List ℕ
buffer_after (refuses n p) before = before
buffer_after (unread rs) before = before
buffer_after (reads ws rs) before = ws ++ drop (length ws) before

-- whatever find's contract allows for a case of the table, with a buffer of at least 4,096 words: the number and the buffer are the case's
abbrev pub EachOwed : Type 0
EachOwed =
    (c : Case) → Memᴰ c table → (before after : List ℕ) (r : ℕ) → 4096 ≤ length before
    → Promised c.job c.starts c.facts before r after → (r ≡ c.number) × (after ≡ buffer_after c.expected before)
