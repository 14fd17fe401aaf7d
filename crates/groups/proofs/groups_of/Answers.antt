-- `groups::groups_of` meets its contract. The invariant: the tables are those of the words that have been taken. Assumes nothing.
use mathlib.Core.Path.{ap, ◌∙◌}
use Rattle.words.proofs.Back.{back_start, back_taken}
use Rattle.groups.proofs.GroupTable.{groups_none, groups_more, groups_all}
use Rattle.groups.proofs.groups_of.Goals as goal

pub loop-w-init : goal.loop-w-init
loop-w-init c =
    let e = ap (λ r. r.iter.rest.now) c.into_iter-w-iterator.ensures.into_iter_gives ∙ ap (λ i. i.rest.now) c.rev-w-items.ensures.source ∙ c.iter.ensures.rest in
    record { walk = rw e (back_start _); table = rw e (groups_none c.args.job.now) }

pub store_word-requires : goal.store_word-requires
store_word-requires c =
    let turn = c.loop-w.invariant in
    let taken = back_taken _ turn.walk c.in-Some.ensures.steps in
    (rw taken.word at (c.requires.group _ taken.inside), rw taken.word at (c.requires.group_member _ taken.inside), turn.table.size)

pub loop-w-preserved : goal.loop-w-preserved
loop-w-preserved c =
    let turn = c.loop-w.invariant in
    let taken = back_taken _ turn.walk c.in-Some.ensures.steps in
    record {
      walk = taken.walk;
      table = groups_more _ _ _ turn.table taken.next taken.inside (rw taken.word c.store_word.ensures);
    }

pub returns : goal.returns
returns c = groups_all (rw c.in-None.ensures.steps.0 at c.loop-w.invariant.table)
