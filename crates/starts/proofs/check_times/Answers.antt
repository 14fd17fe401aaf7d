-- `starts::check_times` meets its contract: at each `?` the rows before fit no word. Assumes nothing.
use mathlib.Core.Path.{ap, ◌∙◌}
use Rattle.std.proofs.lemmas.Result.{err_from_is_err_and}
use Rattle.answers.specs.declared.Refusal.{Refusal}
use Rattle.starts.proofs.Rows.{rows_found, rows_next, rows_last}
use Rattle.starts.proofs.StartsFormed.{timed}
use Rattle.starts.proofs.check_times.Goals as goal
use Rattle.answers.specs.Code.Ruled.{ruled}

pub returns-in_err-wrong_word : goal.returns-in_err-wrong_word
returns-in_err-wrong_word c =
    let p = err_from_is_err_and c.from_residual.result c.from_residual.ensures.1 in
    rw (p.1, p.2) (rows_found 6 _ _ _ c.in_err-wrong_word.ensures)

pub late_end-requires : goal.late_end-requires
late_end-requires c = timed c.requires c.in_ok-wrong_word.ensures

pub returns-in_err-late_end : goal.returns-in_err-late_end
returns-in_err-late_end c =
    let p = err_from_is_err_and c.from_residual-in_err-late_end.result c.from_residual-in_err-late_end.ensures.1 in
    rw (p.1, p.2) (rows_next 6 _ _ _ c.in_ok-wrong_word.ensures (rows_found 7 _ _ _ c.in_err-late_end.ensures))

pub restart-requires : goal.restart-requires
restart-requires c = timed c.requires c.in_ok-wrong_word.ensures

pub returns-in_err-restart : goal.returns-in_err-restart
returns-in_err-restart c =
    let p = err_from_is_err_and c.from_residual-in_err-restart.result c.from_residual-in_err-restart.ensures.1 in
    rw (p.1, p.2)
    (rows_next 6 _ _ _ c.in_ok-wrong_word.ensures (rows_next 7 _ _ _ c.in_ok-late_end.ensures (rows_found 8 _ _ _ c.in_err-restart.ensures)))

pub first_clash-requires : goal.first_clash-requires
first_clash-requires c = (timed c.requires c.in_ok-wrong_word.ensures, c.requires.makes)

pub returns : goal.returns
returns c =
    rows_next 6 _ _ _ c.in_ok-wrong_word.ensures
    (rows_next 7 _ _ _ c.in_ok-late_end.ensures
    (rows_next 8 _ _ _ c.in_ok-restart.ensures
    (c.first_clash.ensures ∙ ap (λ (r : Refusal). ruled r (tt {0})) (rows_last _ _ _))))
