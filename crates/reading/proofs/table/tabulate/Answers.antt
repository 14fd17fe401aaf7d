-- `reading::table::tabulate` meets its contract. Assumes nothing.
use Rattle.reading.proofs.Listing.{pairs_small, counted}
use Rattle.reading.proofs.table.tabulate.Goals as goal

pub returns : goal.returns
returns c =
    let g = c.requires.0 in
    let found = c.fill_table.ensures in record {
      table = found;
      count = rw c.count_all.ensures (counted g.few g.moments found);
      small = rw c.count_all.ensures (pairs_small found);
    }
