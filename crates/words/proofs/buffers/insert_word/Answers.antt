-- The words that stay before w are written, then w, then the rest. Assumes nothing.
use Rattle.words.proofs.Copies.{inserted}
use Rattle.words.proofs.buffers.insert_word.Goals as goal

pub returns : goal.returns
returns c =
    inserted c.args.buffer.now c.args.list.now c.args.w c.place_of-i.result c.copy_words.ensures c.copy_words-2.ensures c.place_of-i.ensures.0 c.place_of-i.ensures.1
