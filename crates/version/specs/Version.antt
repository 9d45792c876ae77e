-- Document 01, "Operation and version": the default version 1.38; a version is u16, dot, u8, and anything else leaves the version so far.
-- Assumes nothing.
use Rattle.std.specs.Prelude.{ℕ, ◌-◌, ◌^◌, List, [], ◌∷◌, None, Option, Some}
use Rattle.text.specs.Base.{part}
use Rattle.values.specs.Numbers.{number}
use Rattle.text.specs.Parts.{split}
use Rattle.text.specs.declared.parts.Part.{Part}
use Rattle.version.specs.declared.ProtocolVersion.{ProtocolVersion}

abbrev pub versioned : (major minor : ℕ) → ProtocolVersion
versioned major minor = record { major = major; minor = minor }

-- the version where none is said
abbrev pub default_version : ProtocolVersion
default_version = versioned 1 38

abbrev pub DOT : ℕ
DOT = 0x2E

-- two numbers make a version
unfoldable pub of_numbers : (major minor : Option ℕ) → Option ProtocolVersion
of_numbers (Some major) (Some minor) = Some (versioned major minor)
of_numbers (Some major) None = None
of_numbers None minor = None

-- of the parts between dots there are exactly two, a u16 and a u8
unfoldable pub of_parts : List ℕ → List Part → Option ProtocolVersion
of_parts s [] = None
of_parts s (a ∷ []) = None
of_parts s (a ∷ b ∷ []) =
    of_numbers (number (2 ^ 16) (part s a.start (a.end - a.start))) (number (2 ^ 8) (part s b.start (b.end - b.start)))
of_parts s (a ∷ b ∷ c ∷ more) = None

unfoldable pub version : List ℕ → Option ProtocolVersion
version s = of_parts s (split DOT s)
