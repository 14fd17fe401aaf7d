-- Between functions: a text that is written to a buffer of bytes: after what stands there, and at its start.
use Rattle.std.specs.Prelude.{ℕ, ◌+◌, ◌≡◌, List, ◌++◌, length, take}
use Rattle.io.specs.Counts.{IsPrefixLen}
use Rattle.text.specs.declared.report.Text.{Text}

-- new is old with a text written behind it, in the same buffer, which keeps its length
pub record Appended (old : Text) (text : List ℕ) (new : Text) : Type 0 where
  pub buffer : new.out.ghost_name ≡ old.out.ghost_name
  pub room : length new.out.now ≡ length old.out.now
  pub ends : new.end ≡ old.end + length text
  pub reads : take new.end new.out.now ≡ take old.end old.out.now ++ text

-- the first r bytes of out are the text
pub record WrittenText (text out : List ℕ) (r : ℕ) : Type 0 where
  pub counts : IsPrefixLen r out
  pub reads : take r out ≡ text
