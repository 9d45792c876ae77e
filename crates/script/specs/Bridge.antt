-- What reading ensures for the plain judge of document 01: the tables hold what the lines of the text, as it sees them, ask for. Assumes nothing.
use Rattle.std.specs.Prelude.{ℕ, ◌≤◌, ◌≡◌, List, map, length}
use Rattle.script.specs.Layout.{Reading, range}
use Rattle.script.specs.Inside.{AllIn}
use Rattle.script.specs.Plain.{plain_lines, opened, expectation_lines, stated_on, leading, ranges_from}

-- no count reaches past 32,768
pub record Few (text : List ℕ) : Type 0 where
  pub entries : opened (plain_lines text) ≤ 0x8000
  pub expectations : length (expectation_lines (plain_lines text)) ≤ 0x8000

pub record AsPlain (text : List ℕ) (r : Reading) : Type 0 where
  -- as many entries as opening lines, as many expectations as expectation lines
  pub entries : length r.tables.entries ≡ opened (plain_lines text)
  pub expectations : length r.tables.expectations ≡ length (expectation_lines (plain_lines text))
  -- the expectations are what these lines state, in line order
  pub stated : r.tables.expectations ≡ stated_on text (expectation_lines (plain_lines text))
  -- and every part of them lies inside the text
  pub inside : AllIn (length text) r.tables.expectations
  -- the handshake's are those above the first opening line
  pub handshake : r.script.preamble.expects ≡ range 0 (leading (plain_lines text))
  -- each entry's are those between its opening line and the next
  pub ranges : map (λ e. e.expects) r.tables.entries ≡ ranges_from 0 (plain_lines text)
