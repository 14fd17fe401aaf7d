-- The table passes its test, by computing. Assumes nothing.
use mathlib.Core.Bool.{true}
use mathlib.Core.Path.{◌≡◌, refl}
use Rattle.answers.specs.Rows.{first_of}
use Rattle.words.specs.Scan.{any, find_or, filter, take_while, drop_while, from_nth, any_below, every, count, concat_below}
use Rattle.job.specs.Before.{before, count_of_kind, since, latest, named}
use Rattle.job.specs.Follow.{predecessor}
use Rattle.job.specs.Parts.{duration, laws_of, shift_windows_of, limit_of, in_group, formula_word, node_word, member_words, condition_words}
use Rattle.job.specs.Rules.{word_refusal_of}
use Rattle.job.specs.Refusal.{word_refusal, refusal_of, name_refusal, end_refusal, job_refusal}
use Rattle.history.specs.Actions.{effect}
use Rattle.history.specs.Values.{initially, next_value, value_at}
use Rattle.facts.specs.Facts.{facts_at, facts_upto, facts_of}
use Rattle.formulas.specs.Values.{form_value, formula_below, formula_at}
use Rattle.starts.specs.Rows.{wrong_word, ends_late, in_hand_already, clash, together, clashes, may_start, outside_windows, over_limit, group_exceeded, needs_unmet, rows_refusal, starts_refusal}
use Rattle.theory.specs.Answers.{plan_refusal, facts_refusal, check_refusal}
use Rattle.theory.specs.Trajectory.{trajectory_of}
use Rattle.job.specs.Procedure.{procedure_of}
use Rattle.words.proofs.AllBelow.{all_below}
use Rattle.cases.proofs.Decision.{placingb, tried, setb, ruleb, reads}
use Rattle.cases.specs.Cases.{table}
use Rattle.cases.proofs.Only.{on_members, on_form, on_passes, on_each}
use Rattle.cases.proofs.Test.{decided, listed, distinct, sound, complete, exactly, fits, rooted, same_words, only, answers, passed, all_passed}

pub computed : all_passed table ≡ true
unfolding first_of find_or drop_while from_nth any_below count before predecessor count_of_kind since latest named duration laws_of shift_windows_of limit_of in_group formula_word node_word member_words condition_words word_refusal_of word_refusal refusal_of name_refusal end_refusal job_refusal effect initially next_value value_at concat_below facts_at facts_upto facts_of form_value formula_below formula_at wrong_word ends_late in_hand_already clash together clashes may_start outside_windows over_limit group_exceeded needs_unmet rows_refusal starts_refusal plan_refusal facts_refusal check_refusal trajectory_of procedure_of all_below placingb tried setb ruleb reads decided listed distinct sound complete exactly fits rooted on_members on_form on_passes on_each same_words only answers passed all_passed
computed = refl
