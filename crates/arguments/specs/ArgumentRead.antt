-- What the code's answers about argument lines say. Assumes nothing.
use Rattle.std.specs.Prelude.{ℕ, Bool, false, List, None, Option, Some}
use Rattle.text.specs.Base.{◌&◌, QUOTE}
use Rattle.text.specs.declared.parts.Span.{Span}
use Rattle.script.specs.Answers.{◌>>=◌}
use Rattle.script.specs.Pieces.{Cut, begins, behind, cut}
use Rattle.script.specs.declared.roles.Takes.{Takes}
use Rattle.script.specs.declared.roles.Takes.TheVariants.{NoLines, Options, Garbage, Verify, Texts, Store, Multiple, FirstData, FirstRaw}
use Rattle.script.specs.declared.roles.Saying.{Saying}
use Rattle.script.specs.declared.roles.Saying.TheVariants.{Known, Pair, NoColon, Unknown, NoPair, NoRaw}
use Rattle.script.specs.Inside.{In}

-- the pieces of a saying lie in the text
abbrev pub SayingIn : List ℕ → Saying → Type 0
SayingIn text (Known k v) = In text v
SayingIn text (Pair a b) = In text a × In text b
SayingIn text NoColon = Unit {0}
SayingIn text (Unknown k v) = In text k × In text v
SayingIn text NoPair = Unit {0}
SayingIn text NoRaw = Unit {0}

-- in an override list a line is a pair or none
unfoldable pub pair_saying : Option Saying → Saying
pair_saying None = NoPair
pair_saying (Some p) = p

-- what stands in quotes at the front of the piece, and what follows
unfoldable pub quoted : (text : List ℕ) → Span → Option Cut
quoted text t = do
  a ← behind text "\"" t
  cut text QUOTE a

-- a line of an open override list that is a pair or none
unfoldable pub listed : (text : List ℕ) → Takes → (list_open : Bool) → Span → Bool
listed text NoLines list_open t = false
listed text Options list_open t = list_open & begins text "\"" t
listed text Garbage list_open t = false
listed text Verify list_open t = false
listed text Texts list_open t = false
listed text Store list_open t = false
listed text Multiple list_open t = false
listed text FirstData list_open t = false
listed text FirstRaw list_open t = false
