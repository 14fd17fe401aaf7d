-- `extract::search::meeting` meets its contract. Assumes nothing.
use Prim.Native.Nat.{◌-◌, ◌<◌}
use Rattle.std.proofs.Common.{rules, ◌≡◌, Some}
use Rattle.std.specs.Option.{option_map}
use Rattle.std.proofs.iter.runs.Sources.{ranges}
use Rattle.extract.proofs.Searches.{first_meets}
use Rattle.extract.proofs.search.meeting.Goals as goal

pub returns : goal.returns
returns c =
    let p = c.find.ensures.runs.0 in
    first_meets _ _ _ _ _ _ c.find.result c.requires.upto
    (λ q m a b x.
    let l : m - c.args.first < p.len = search (rules, ranges) in
    let s : option_map (λ y. y) (p.at (m - c.args.first)) ≡ Some m = search (rules, ranges) in
    search (rules, ranges))
    (λ m q. search (rules, ranges))
