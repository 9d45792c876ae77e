-- What only the code that finds a line needs (src/lines.rt). Assumes nothing.
use Rattle.std.specs.Prelude.{ℕ, ◌-◌, List, eqb, ltb, get_or, if◌then◌else◌}
use Rattle.text.specs.Base.{◌&◌, CR}

-- where a line that began at start ends if its LF stands at lf
unfoldable pub end_at : List ℕ → (start lf : ℕ) → ℕ
end_at text start lf = if ltb start lf & eqb (get_or text (lf - 1) 0) CR then lf - 1 else lf
