-- `row_responses::path_info` meets its contract. Assumes nothing.
use Rattle.rows.specs.Rows.{path_info_of, on}
use Rattle.row_responses.proofs.path_info.Goals as goal

pub returns : goal.returns
unfolding path_info_of on
returns c = rw (c.at-12.ensures, c.maybe_number-nar_size.ensures, c.at-11.ensures, c.at-10.ensures, c.maybe_items-references.ensures, c.at-9.ensures, c.at-8.ensures, c.at-7.ensures, c.maybe-nar_hash.ensures, c.at-6.ensures, c.at-5.ensures, c.at-4.ensures, c.maybe-deriver.ensures, c.at-3.ensures, c.at-2.ensures, c.at.ensures)
