-- What is a file, by what the calls on it answered. Assumes nothing.
use Rattle.std.proofs.Common.{ℕ, zero, suc, ◌≡◌, List, Some, None, Result, Ok, Err, IfOk, length, take, refl, arith}
use Rattle.io.specs.Counts.{IsPrefixLen}
use Rattle.reader.specs.declared.Reads.{Reads}
use Rattle.reader.specs.Printed.{file_by, file_of}

-- of n bytes and the read after them: it does not end after n bytes; it does; its size is the number of bytes read
module _ {E : Type 0} (n : ℕ) where
  pub unended_by : (next : Result ℕ E) → (next ≡ Ok 0 → ⊥) → None ≡ file_by n next
  unended_by (Ok zero) h = absurd (h refl)
  unended_by (Ok (suc k)) h = refl
  unended_by (Err e) h = refl

  pub ended_by : (next : Result ℕ E) → next ≡ Ok 0 → Some n ≡ file_by n next
  ended_by next e = rw e

  pub size_by : (next : Result ℕ E) {k : ℕ} → file_by n next ≡ Some k → n ≡ k
  size_by (Ok zero) e = cc
  size_by (Ok (suc j)) e = let z : ◌≡◌ {A = ℕ} 0 1 = cc in absurd (omega arith)
  size_by (Err j) e = let z : ◌≡◌ {A = ℕ} 0 1 = cc in absurd (omega arith)

module _ {E : Type 0} where
  -- it was not opened; it does not end after its bytes; it does
  pub missing : (opened : Result Reads E) (e : E) → opened ≡ Err e → None ≡ file_of opened
  missing opened e h = rw h

  pub unended : (opened : Result Reads E) → IfOk opened (λ r. r.next ≡ Ok 0 → ⊥) → None ≡ file_of opened
  unended (Ok r) h = unended_by r.bytes r.next h
  unended (Err e) h = refl

  pub ended : (opened : Result Reads E) (r : Reads) → opened ≡ Ok r → r.next ≡ Ok 0 → Some r.bytes ≡ file_of opened
  ended opened r h e = rw h (ended_by r.bytes r.next e)

  -- its size is the number of bytes read
  pub size_read : (opened : Result Reads E) {k : ℕ} → file_of opened ≡ Some k → IfOk opened (λ r. r.bytes ≡ k)
  size_read (Ok r) e = size_by r.bytes r.next e
  size_read (Err j) e = tt

  -- the same of the bytes at the start of a buffer
  pub counted : (opened : Result Reads E) (buffer : List ℕ) {k : ℕ} → file_of opened ≡ Some k → IfOk opened (λ r. IsPrefixLen r.bytes buffer)
      → k ≡ length (take k buffer)
  counted (Ok r) buffer e c = let same = size_by r.bytes r.next e in rw same at c.1
  counted (Err j) buffer e c = let z : ◌≡◌ {A = ℕ} 0 1 = cc in absurd (omega arith)
