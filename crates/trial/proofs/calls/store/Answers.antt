-- `trial::calls::store` meets its contract: two words, and the starts after them. Assumes nothing.
use mathlib.Core.Path.{sym, ap, ◌∙◌}
use native.Mathlib.Omega.{arith}
use lib.ListN.{length, length-take, length-set}
use lib.Seq.{length-take-le, length-sets}
use Rattle.trial.proofs.Handed.{stored}
use Rattle.trial.proofs.calls.store.Goals as goal

pub bounds-words-1 : goal.bounds-words-1
bounds-words-1 c = simp length-set (omega (arith, c.requires.1))

pub slice_bounds-copy_words-end : goal.slice_bounds-copy_words-end
slice_bounds-copy_words-end c = sym (length-take-le _ _ (omega (arith, c.requires.0.size, c.requires.0.few)))

pub copy_words-requires : goal.copy_words-requires
copy_words-requires c = simp (length-set, length-take) (omega (arith, c.requires.0.few, c.requires.1))

pub shape_of-words : goal.shape_of-words
shape_of-words c = ap length c.copy_words.ensures ∙ simp (length-sets, length-set)

pub returns : goal.returns
returns c = stored c.args.trial.now c.requires.0 c.args.words.now c.requires.1 c.copy_words.ensures
