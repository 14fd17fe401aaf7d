-- `trial::Trial::with_word` meets its contract: the words with one put in, in front of the array. Assumes nothing.
use mathlib.Core.Path.{sym}
use native.Mathlib.Omega.{arith}
use lib.ListN.{length-take}
use lib.Seq.{length-take-le}
use Rattle.trial.proofs.Moves.{put_size, put_front}
use Rattle.trial.proofs.Trial.with_word.Goals as goal

pub slice_bounds-insert_word-end : goal.slice_bounds-insert_word-end
slice_bounds-insert_word-end c = let p = c.requires in sym (length-take-le _ _ (omega (arith, p.sized.size, p.room)))

pub slice_bounds-insert_word-end-2 : goal.slice_bounds-insert_word-end-2
slice_bounds-insert_word-end-2 c = sym c.requires.sized.size

pub insert_word-requires : goal.insert_word-requires
insert_word-requires c = let p = c.requires in (p.order, simp length-take (omega (arith, p.sized.size, p.room)))

pub returns : goal.returns
returns c =
    let put = c.insert_word.ensures in
    record {
      trial = rw (put_front c.args.self.now c.args.w c.requires.sized c.requires.room put);
      sized = record { size = put_size c.args.self.now c.args.w c.requires.sized c.requires.room put; few = omega (arith, c.requires.room); soon = c.requires.sized.soon };
    }
