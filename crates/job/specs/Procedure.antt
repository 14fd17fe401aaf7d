-- The procedure of a job.
use Rattle.std.specs.Prelude.{List, map, ℕ}
use Rattle.words.specs.Fields.{member_node}
use Rattle.model.specs.Procedure.{Procedure}
use Rattle.job.specs.Parts.{node_count, node_word, member_words, condition_words}

unfoldable pub procedure_of : List ℕ → Procedure
procedure_of job = record {
  count = node_count job;
  node = node_word job;
  members = λ p. map member_node (member_words job p);
  conditions = condition_words job;
}
