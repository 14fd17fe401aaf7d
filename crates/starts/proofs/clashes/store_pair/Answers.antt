-- `starts::clashes::store_pair` meets its contract: what is stored at both places is whether the two clash. Assumes nothing.
use mathlib.Core.Bool.{Bool, true, false}
use mathlib.Core.Path.{◌≡◌, refl, ap, ◌∙◌}
use mir.Val.{bool_byte}
use Rattle.words.specs.Tests.{indicator}
use Rattle.starts.proofs.ClashTable.{pair_stored}
use Rattle.starts.proofs.clashes.store_pair.Goals as goal

-- a test as a byte
as_byte : (t : Bool) → bool_byte t ≡ indicator t
as_byte true = refl
as_byte false = refl

pub returns : goal.returns
returns c = pair_stored c.requires (c.from-entry.ensures ∙ as_byte c.has_clash.result ∙ ap indicator c.has_clash.ensures)
