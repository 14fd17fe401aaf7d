-- `files::decode` meets its contract: at i the first i words of the bytes stand at the front of out. Assumes nothing.
use Rattle.std.proofs.Common.{arith, ◌≡◌, ◌∙◌, ◌<◌, ◌/◌, length, slice_index}
use Rattle.text.specs.Files.{words_of}
use Rattle.text.proofs.Bytes.{over_more, length-words, word_at, decoded}
use Rattle.text.proofs.files.decode.Goals as goal

pub loop-i-preserved : goal.loop-i-preserved
loop-i-preserved c =
    let bytes = c.args.bytes.now in
    let within : c.loop-i.i < length bytes / 4 = omega (arith, c.as_chunks.ensures.front_len) in
    let word : c.from_le_bytes.result ≡ slice_index (words_of bytes) c.loop-i.i = c.from_le_bytes.ensures ∙ rw c.as_chunks.ensures.front (word_at bytes (length bytes / 4) c.loop-i.i within (omega arith)) in
    over_more _ _ _ _ _ c.loop-i.invariant word (omega arith) (omega (arith, length-words bytes))

pub returns : goal.returns
returns c = decoded _ _ _ _ c.loop-i.i c.loop-i.invariant (omega arith) c.as_chunks.ensures.front_len (omega arith) c.requires
