-- `row_responses::substitutable` meets its contract. Assumes nothing.
use Rattle.rows.specs.Rows.{substitutable_of, on}
use Rattle.row_responses.proofs.substitutable.Goals as goal

pub returns : goal.returns
unfolding substitutable_of on
returns c = rw (c.at-5.ensures, c.maybe_number-nar_size.ensures, c.at-4.ensures, c.at-3.ensures, c.maybe_number-download_size.ensures, c.at-2.ensures, c.at.ensures)
