-- The numbers of the fields of an operation, and so many numbers with zeros behind them. Assumes nothing.
use Rattle.std.specs.Prelude.{ℕ, zero, suc, Bool, true, false, List, [], ◌∷◌}
use Rattle.script.specs.declared.records.Place.{Place}
use Rattle.script.specs.declared.records.Items.{Items}
use Rattle.script.specs.declared.records.FramedData.{FramedData}
use Rattle.script.specs.declared.records.FramedData.TheVariants.{Inline, FileRef}
use Rattle.script.specs.declared.records.Options.{Options}

-- 1 for yes, 0 for no
unfoldable pub flag : Bool → ℕ
flag false = 0
flag true = 1

-- where it starts, and how many bytes it has
unfoldable pub place_numbers : Place → List ℕ
place_numbers p = p.start ∷ p.len ∷ []

-- the first of a range, and how many
unfoldable pub items_numbers : Items → List ℕ
items_numbers i = i.first ∷ i.count ∷ []

-- the first so many numbers, with zeros behind them
unfoldable pub padded : (count : ℕ) → List ℕ → List ℕ
padded zero ns = []
padded (suc count) [] = 0 ∷ padded count []
padded (suc count) (n ∷ ns) = n ∷ padded count ns

-- 0 for data of the text, 1 for the name of a file; and the place
unfoldable pub data_numbers : FramedData → List ℕ
data_numbers (Inline p) = 0 ∷ place_numbers p
data_numbers (FileRef p) = 1 ∷ place_numbers p

-- the options in the order of the declaration, then the range of the overrides
unfoldable pub options_numbers : Options → List ℕ
options_numbers o =
    o.keep_failed
    ∷ o.keep_going
    ∷ o.try_fallback
    ∷ o.verbosity
    ∷ o.max_build_jobs
    ∷ o.max_silent_time
    ∷ o.use_build_hook
    ∷ o.verbose_build
    ∷ o.log_type
    ∷ o.print_build_trace
    ∷ o.build_cores
    ∷ o.use_substitutes
    ∷ items_numbers o.overrides
