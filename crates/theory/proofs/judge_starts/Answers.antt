-- `theory::judge_starts` meets its contract: rows 6 to 9, 15, 16 or 10 refuse, or a plan passes them. Assumes nothing.
use mathlib.Core.Path.{refl, ap, sym, ◌∙◌}
use native.Mathlib.Omega.{arith}
use Rattle.answers.specs.declared.Refusal.{Refusal}
use Rattle.answers.proofs.Rows.{ok-passed, err-refused}
use Rattle.job.proofs.WellFormed.{well_formed}
use Rattle.history.specs.Code.Tables.{Ruled}
use Rattle.starts.specs.Code.Given.{StartsFormed}
use Rattle.starts.proofs.StartsFormed.{times_passed, named, right_word, few_words, ascending}
use Rattle.theory.proofs.Laws.{handed_by}
use Rattle.theory.proofs.StartRows.{by_times, by_windows, by_groups, by_needs}
use Rattle.theory.proofs.Passing.{actions-indexed}
use Rattle.theory.proofs.judge_starts.Goals as goal
use Rattle.theory.proofs.judge_starts.Goals.{After-law_ends-ends, In_ok-check_times}

-- row 6 fits no start
starting : (c : In_ok-check_times) → StartsFormed c.args.job.now c.args.starts.now
starting c = times_passed refl (ok-passed _ tt c.in_ok-check_times.ensures).0

pub durations-durations-requires : goal.durations-durations-requires
durations-durations-requires c =
    (well_formed _ c.requires.good, actions-indexed _ c.requires.good c.requires.index)

pub law_ends-ends-requires : goal.law_ends-ends-requires
law_ends-ends-requires c =
    (well_formed _ c.requires.good, actions-indexed _ c.requires.good c.requires.index)

-- the laws of the job's actions
ruled : (c : After-law_ends-ends) → Ruled c.args.job.now c.args.index.now.actions.position c.law_ends-ends.result
ruled c =
    record { formed = well_formed _ c.requires.good; indexed = actions-indexed _ c.requires.good c.requires.index; laws = c.law_ends-ends.ensures }

pub effects-effects-requires : goal.effects-effects-requires
effects-effects-requires c = ruled (goal.at.effects-effects-requires c).After-law_ends-ends

pub check_times-requires : goal.check_times-requires
check_times-requires c =
    record {
      formed = well_formed _ c.requires.good;
      lasts = c.durations-durations.ensures;
      makes = c.effects-effects.ensures;
    }

pub returns-in_err-check_times : goal.returns-in_err-check_times
returns-in_err-check_times c =
    let h = err-refused _ tt c.in_err-check_times.ensures in
    handed_by _ _ c.from_residual.ensures.1 h.1 h.0 (by_times _ _ c.requires.good h.0)

pub history-history-requires : goal.history-history-requires
history-history-requires c =
    let words = starting (goal.at.history-history-requires c).In_ok-check_times in (
      record {
        well = well_formed _ c.requires.good;
        tables = record { durations = c.durations-durations.ensures; effects = c.effects-effects.ensures };
        named = named words;
      },
      ascending words (λ i. omega (arith, c.type_inv.starts i)),
      few_words _ _ (λ i. omega (arith, c.type_inv.starts i)) _ words.right,
      c.requires.soon,
    )

pub shifts_of-shifts-requires : goal.shifts_of-shifts-requires
shifts_of-shifts-requires c = c.durations-durations.ensures

pub outside_windows-requires : goal.outside_windows-requires
outside_windows-requires c = (c.shifts_of-shifts.ensures, starting (goal.at.outside_windows-requires c).In_ok-check_times)

pub returns-in_err-outside_windows : goal.returns-in_err-outside_windows
returns-in_err-outside_windows c =
    let t = (ok-passed _ tt c.in_ok-check_times.ensures).0 in
    let h = err-refused _ tt c.in_err-outside_windows.ensures in
    handed_by _ _ c.from_residual-in_err-outside_windows.ensures.1 h.1 h.0 (by_windows _ _ c.requires.good t h.0)

pub groups_of-groups-requires : goal.groups_of-groups-requires
groups_of-groups-requires c = well_formed _ c.requires.good

pub over_limit-requires : goal.over_limit-requires
over_limit-requires c =
    let words = starting (goal.at.over_limit-requires c).In_ok-check_times in
    record {
      timed = record { formed = well_formed _ c.requires.good; lasts = c.durations-durations.ensures; words = words };
      table = c.groups_of-groups.ensures;
      ascends = ascending words (λ i. omega (arith, c.type_inv.starts i));
      few = few_words _ _ (λ i. omega (arith, c.type_inv.starts i)) _ words.right;
    }

pub returns-in_err-over_limit : goal.returns-in_err-over_limit
returns-in_err-over_limit c =
    let t = (ok-passed _ tt c.in_ok-check_times.ensures).0 in
    let w = (ok-passed _ tt c.in_ok-outside_windows.ensures).0 in
    let h = err-refused _ tt c.in_err-over_limit.ensures in
    handed_by _ _ c.from_residual-in_err-over_limit.ensures.1 h.1 h.0 (by_groups _ _ c.requires.good t w h.0)

pub check_needs-requires : goal.check_needs-requires
check_needs-requires c =
    let words = starting (goal.at.check_needs-requires c).In_ok-check_times in
    record {
      rules = ruled (goal.at.check_needs-requires c).After-law_ends-ends;
      words = words;
      last = c.args.last;
      past = λ i l. c.requires.past i l (right_word words i l).moment;
      values = c.history-history.ensures;
    }

pub returns-in_err-check_needs : goal.returns-in_err-check_needs
returns-in_err-check_needs c =
    let t = (ok-passed _ tt c.in_ok-check_times.ensures).0 in
    let h = err-refused _ tt c.in_err-check_needs.ensures in
    handed_by _ _ c.from_residual-in_err-check_needs.ensures.1 h.1 h.0
    (by_needs _ _ c.requires.good t (ok-passed _ tt c.in_ok-outside_windows.ensures).0 (ok-passed _ tt c.in_ok-over_limit.ensures).0)

pub returns : goal.returns
returns c =
    let t = (ok-passed _ tt c.in_ok-check_times.ensures).0 in
    let w = (ok-passed _ tt c.in_ok-outside_windows.ensures).0 in
    let g = (ok-passed _ tt c.in_ok-over_limit.ensures).0 in
    let clear = ap (λ (r : Refusal). r.number) (sym (by_needs _ _ c.requires.good t w g)) ∙ (ok-passed _ tt c.in_ok-check_needs.ensures).0 in (
      clear,
      record {
        clear = clear;
        index = c.requires.index;
        durations = c.durations-durations.ensures;
        laws = c.law_ends-ends.ensures;
        effects = c.effects-effects.ensures;
        shifts = c.shifts_of-shifts.ensures;
        groups = c.groups_of-groups.ensures;
        history = c.history-history.ensures;
      },
    )
