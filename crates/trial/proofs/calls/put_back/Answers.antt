-- `trial::calls::put_back` meets its contract: a refusal leaves the words, or the trial's words are written. Assumes nothing.
use mathlib.Core.Path.{refl, sym, ap, ◌∙◌}
use lib.ListN.{length}
use Rattle.answers.proofs.Rows.{ruled-passed, ruled-refused}
use Rattle.trial.proofs.Handed.{handed_size}
use Rattle.trial.proofs.calls.put_back.Goals as goal

pub returns-then-moved-ne0 : goal.returns-then-moved-ne0
returns-then-moved-ne0 c = (sym (ruled-refused _ _ c.if-moved-ne0.true), refl)

pub store-requires : goal.store-requires
store-requires c = (c.requires.0 c.if-moved-ne0.false, c.requires.1)

pub shape_of-words : goal.shape_of-words
shape_of-words c = ap length c.store.ensures ∙ handed_size c.args.moved.trial (c.requires.0 c.if-moved-ne0.false) c.args.words.now c.requires.1

pub returns : goal.returns
returns c = (sym (ruled-passed _ _ c.if-moved-ne0.false), c.store.ensures)
