-- The text that planread prints, by what came of opening and reading its two files.
use Rattle.std.specs.Prelude.{ℕ, zero, suc, ◌≤◌, List, ◌≡◌, Option, Some, None, Result, Ok, Err, IfOk, length, take}
use Rattle.io.specs.Counts.{IsPrefixLen}
use Rattle.reader.specs.declared.Reads.{Reads}
use Rattle.reader.specs.Reply.{bad_file, text_room, Reply}

-- n bytes, and what the read after them answered: the file ends there, it goes on, or the read failed
abbrev pub file_by : {E : Type 0} → ℕ → Result ℕ E → Option ℕ
file_by n (Ok zero) = Some n
file_by n (Ok (suc k)) = None
file_by n (Err e) = None

-- a file that was opened and read, or not opened
abbrev pub file_of : {E : Type 0} → Result Reads E → Option ℕ
file_of (Ok r) = file_by r.bytes r.next
file_of (Err e) = None

-- the bytes of each file that was opened are at the start of its buffer, and there is room for the longest text
pub record BothRead {E : Type 0} (ofJob ofPlan : Result Reads E) (job plan out : List ℕ) : Type 0 where
  pub in_job : IfOk ofJob (λ r. IsPrefixLen r.bytes job)
  pub in_plan : IfOk ofPlan (λ r. IsPrefixLen r.bytes plan)
  pub wide : text_room ≤ length out

-- both files were read whole: the reply to exactly their bytes, at the start of the buffers; else 'bad file'
abbrev pub Printed : Option ℕ → Option ℕ → List ℕ → List ℕ → List ℕ → Type 0
Printed (Some n) (Some m) job plan text = Reply (take n job) (take m plan) text
Printed (Some n) None job plan text = text ≡ bad_file
Printed None other job plan text = text ≡ bad_file
