-- `job::scan::scan_words` meets its contract. Assumes nothing.
use mathlib.Core.Path.{refl, ap, sym, ◌∙◌}
use lib.ListN.{length}
use Rattle.answers.specs.declared.Refusal.{Refusal}
use Rattle.answers.proofs.Rows.{first_start, first_more, first_found, any-number, no_number}
use Rattle.job.proofs.Before.{before_more, tied_start}
use Rattle.job.proofs.Listing.{listed_none, listed_more}
use Rattle.job.proofs.Refusal.{passes}
use Rattle.job.proofs.scan.scan_words.Goals as goal

pub loop-i-init : goal.loop-i-init
loop-i-init c = record { state = tied_start _; listed = listed_none _ _; none = first_start _ }

pub returns-in-Some : goal.returns-in-Some
returns-in-Some c =
    let told = any-number _ (sym c.in-Some.is ∙ c.word_refusal.ensures) in
    let found = first_found _ _ (length c.args.job.now) c.loop-i.invariant.none told.1 c.loop-i-test.true in (
      rw (c.refuse.ensures, told.0) (sym found),
      λ z. told.1 (sym (ap (λ (r : Refusal). r.number) found) ∙ z),
    )

pub loop-i-preserved : goal.loop-i-preserved
loop-i-preserved c =
    let job = c.args.job.now in
    let i = c.loop-i.i in
    let none = no_number _ (sym c.in_default.is ∙ c.word_refusal.ensures) in
    record {
      state = c.advance-s.ensures;
      listed = rw (before_more job i) (listed_more c.loop-i.invariant.listed (passes job i _ refl none).0 c.list_word.ensures);
      none = first_more _ _ c.loop-i.invariant.none none;
    }
