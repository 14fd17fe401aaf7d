-- `sets::bounds::fill_pair` meets its contract. The later ends are joined from the last down, the sooner ones from the first up. Assumes nothing.
use Rattle.sets.proofs.Late.{grows_more, bounded_joined}
use Rattle.sets.proofs.bounds.fill_pair.Goals as goal

pub returns : goal.returns
returns c =
    let marked = c.mark_pair.ensures in
    let late = c.join.ensures in
    let soon = c.join-2.ensures in (
      grows_more marked.0 (grows_more late.0 soon.0),
      λ y e g h k m t. bounded_joined late.0 soon.0 late.1 soon.1 (marked.1 y e g h k m t),
    )
