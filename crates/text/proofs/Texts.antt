-- Laws of texts that are written one after the other. Assumes nothing.
use Prim.Native.Nat.{ℕ, ◌≤◌}
use native.Mathlib.Omega.{arith}
use mathlib.Core.Path.{◌≡◌, refl, sym, ◌∙◌}
use mathlib.Core.List.{List, [], ◌++◌, append_assoc, append-nil}
use lib.ListN.{length, take, length-append}
use lib.Seq.{length-take-le, take_all}
use Rattle.text.specs.Report.{accepted_text}
use Rattle.text.specs.declared.report.Text.{Text}
use Rattle.text.specs.Code.Written.{Appended}

pub nothing : (t : Text) → Appended t [] t
nothing t = record { buffer = refl; room = refl; ends = omega arith; reads = sym (append-nil (take t.end t.out.now)) }

-- one text after another
pub then : {old mid new : Text} {t u : List ℕ} → Appended old t mid → Appended mid u new → Appended old (t ++ u) new
then {old} {mid} {new} {t} {u} first next =
    record {
      buffer = next.buffer ∙ first.buffer;
      room = next.room ∙ first.room;
      ends = omega (arith, length-append t u, first.ends, next.ends);
      reads = next.reads ∙ rw (first.reads, append_assoc);
    }

-- the text of the first words of a list, as that of the list
pub front_text : (l count : ℕ) (words : List ℕ) → l ≤ length words → accepted_text (length (take l words)) count (take l words) ≡ accepted_text l count words
unfolding accepted_text
front_text l count words h = rw (length-take-le l words h, take_all l (take l words) (omega (arith, length-take-le l words h)))
