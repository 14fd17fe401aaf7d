-- `applicable::held_refusal` meets its contract: of the starts those in hand decide rows 8, 9 and 16. Assumes nothing.
use mathlib.Core.Bool.{true, false}
use mathlib.Core.Path.{◌≡◌, refl, sym, ◌∙◌}
use mathlib.Core.List.{◌∷◌}
use native.Mathlib.Omega.{arith}
use Rattle.words.specs.Fields.{start_word}
use Rattle.words.specs.Scan.{any}
use Rattle.words.proofs.Lists.{each_at}
use Rattle.starts.specs.Rows.{clashing, may_start, over_limit}
use Rattle.shifts.proofs.ShiftSets.{may_start-read}
use Rattle.moves.specs.Trials.{busy}
use Rattle.applicable.proofs.Facing.{kept, held_facing, held_busy, held_clash, held_full}
use Rattle.applicable.proofs.NewStart.{present_formed, present_facing}
use Rattle.applicable.proofs.held_refusal.Goals as goal

pub keep-requires : goal.keep-requires
keep-requires c = c.requires.tabled.lasts.small

pub some_busy-requires : goal.some_busy-requires
some_busy-requires c =
    let f = held_facing (present_facing c.requires.present c.requires.tabled c.requires.action) in
    let in_hand_lem = kept c.hold.ensures.1 c.keep.ensures c.starts-in_hand.ensures in
    (f.tables.lasts, rw in_hand_lem (record { action = each_at f.action }))

pub returns-then-some_busy : goal.returns-then-some_busy
returns-then-some_busy c =
    let facing = present_facing c.requires.present c.requires.tabled c.requires.action in
    let in_hand_lem = kept c.hold.ensures.1 c.keep.ensures c.starts-in_hand.ensures in
    let busy_is : let args = c.args in any (busy args.tables.now.job.now args.u args.a) args.starts.now ≡ true = sym (held_busy facing) ∙ rw (← in_hand_lem) (sym c.some_busy.ensures ∙ c.if-some_busy.true) in
    rw (c.refuse.ensures, busy_is)

pub some_clash-requires : goal.some_clash-requires
some_clash-requires c =
    let in_hand_lem = kept c.hold.ensures.1 c.keep.ensures c.starts-in_hand.ensures in
    rw in_hand_lem (held_facing (present_facing c.requires.present c.requires.tabled c.requires.action))

pub returns-then-some_clash : goal.returns-then-some_clash
returns-then-some_clash c =
    let facing = present_facing c.requires.present c.requires.tabled c.requires.action in
    let in_hand_lem = kept c.hold.ensures.1 c.keep.ensures c.starts-in_hand.ensures in
    let busy_is : let args = c.args in any (busy args.tables.now.job.now args.u args.a) args.starts.now ≡ false = sym (held_busy facing) ∙ rw (← in_hand_lem) (sym c.some_busy.ensures ∙ c.if-some_busy.false) in
    let clash_is : let args = c.args in any (λ s. clashing args.tables.now.job.now s (start_word args.u args.a)) args.starts.now ≡ true = sym (held_clash facing) ∙ rw (← in_hand_lem) (sym c.some_clash.ensures ∙ c.if-some_clash.true) in
    rw (c.refuse-then-some_clash.ensures, busy_is, clash_is)

pub may_start-requires : goal.may_start-requires
may_start-requires c = let given = c.requires.present in omega (arith, given.present, (present_formed given).few_moments, c.requires.action, (present_formed given).few_actions)

pub returns-then-not-may_start : goal.returns-then-not-may_start
returns-then-not-may_start c =
    let facing = present_facing c.requires.present c.requires.tabled c.requires.action in
    let in_hand_lem = kept c.hold.ensures.1 c.keep.ensures c.starts-in_hand.ensures in
    let busy_is : let args = c.args in any (busy args.tables.now.job.now args.u args.a) args.starts.now ≡ false = sym (held_busy facing) ∙ rw (← in_hand_lem) (sym c.some_busy.ensures ∙ c.if-some_busy.false) in
    let clash_is : let args = c.args in any (λ s. clashing args.tables.now.job.now s (start_word args.u args.a)) args.starts.now ≡ false = sym (held_clash facing) ∙ rw (← in_hand_lem) (sym c.some_clash.ensures ∙ c.if-some_clash.false) in
    let may_is : let args = c.args in may_start args.tables.now.job.now args.u args.a ≡ false = sym (may_start-read c.requires.present.passed.shifts _ _ c.may_start.ensures refl refl c.requires.action) ∙ c.if-not-may_start.true in
    rw (c.refuse-then-not-may_start.ensures, busy_is, clash_is, may_is)

pub some_full-requires : goal.some_full-requires
some_full-requires c = omega (arith, c.requires.action, (present_formed c.requires.present).few_actions)

pub returns-then-some_full : goal.returns-then-some_full
returns-then-some_full c =
    let facing = present_facing c.requires.present c.requires.tabled c.requires.action in
    let in_hand_lem = kept c.hold.ensures.1 c.keep.ensures c.starts-in_hand.ensures in
    let busy_is : let args = c.args in any (busy args.tables.now.job.now args.u args.a) args.starts.now ≡ false = sym (held_busy facing) ∙ rw (← in_hand_lem) (sym c.some_busy.ensures ∙ c.if-some_busy.false) in
    let clash_is : let args = c.args in any (λ s. clashing args.tables.now.job.now s (start_word args.u args.a)) args.starts.now ≡ false = sym (held_clash facing) ∙ rw (← in_hand_lem) (sym c.some_clash.ensures ∙ c.if-some_clash.false) in
    let may_is : let args = c.args in may_start args.tables.now.job.now args.u args.a ≡ true = sym (may_start-read c.requires.present.passed.shifts _ _ c.may_start.ensures refl refl c.requires.action) ∙ c.if-not-may_start.false in
    let full_is : let args = c.args in over_limit args.tables.now.job.now (start_word args.u args.a ∷ args.starts.now) (start_word args.u args.a) ≡ true = sym (held_full facing c.requires.present.passed.groups (c.some_full.ensures ∙ rw in_hand_lem)) ∙ c.if-some_full.true in
    rw (c.refuse-then-some_full.ensures, busy_is, clash_is, may_is, full_is)

pub returns : goal.returns
returns c =
    let facing = present_facing c.requires.present c.requires.tabled c.requires.action in
    let in_hand_lem = kept c.hold.ensures.1 c.keep.ensures c.starts-in_hand.ensures in
    let busy_is : let args = c.args in any (busy args.tables.now.job.now args.u args.a) args.starts.now ≡ false = sym (held_busy facing) ∙ rw (← in_hand_lem) (sym c.some_busy.ensures ∙ c.if-some_busy.false) in
    let clash_is : let args = c.args in any (λ s. clashing args.tables.now.job.now s (start_word args.u args.a)) args.starts.now ≡ false = sym (held_clash facing) ∙ rw (← in_hand_lem) (sym c.some_clash.ensures ∙ c.if-some_clash.false) in
    let may_is : let args = c.args in may_start args.tables.now.job.now args.u args.a ≡ true = sym (may_start-read c.requires.present.passed.shifts _ _ c.may_start.ensures refl refl c.requires.action) ∙ c.if-not-may_start.false in
    let full_is : let args = c.args in over_limit args.tables.now.job.now (start_word args.u args.a ∷ args.starts.now) (start_word args.u args.a) ≡ false = sym (held_full facing c.requires.present.passed.groups (c.some_full.ensures ∙ rw in_hand_lem)) ∙ c.if-some_full.false in
    rw (busy_is, clash_is, may_is, full_is)
