-- Document 01, "The script": what each line of a text is. One line after another, and all that is carried from line to line is where the line stands.
-- Assumes nothing.
use Rattle.std.specs.Prelude.{ℕ, ◌+◌, Bool, true, false, not, List, [], ◌∷◌, eqb, if◌then◌else◌, Err, None, Ok, Option, Some}
use Rattle.text.specs.Base.{◌&◌, ◌or◌, BLANK, QUOTE}
use Rattle.text.specs.Parts.{span}
use Rattle.text.specs.Lines.{indented}
use Rattle.text.specs.declared.parts.Span.{Span}
use Rattle.text.specs.declared.lines.Line.{Line}
use Rattle.wire.specs.Operations.{named}
use Rattle.version.specs.Version.{version}
use Rattle.wire.specs.declared.ops.Op.{Op}
use Rattle.version.specs.declared.ProtocolVersion.{ProtocolVersion}
use Rattle.script.specs.Answers.{◌>>=◌, first_of, Answer}
use Rattle.script.specs.Pieces.{Cut, bytes, is_empty, is, begins, behind, trim, cut, cut_or}
use Rattle.script.specs.Operations.{Kind, a_number, a_flag, a_quoted, a_set, some_data, a_list, a_hex, a_version, a_feature_set, a_text, key_row, keys_of, key_in, Syntax, ignored, one_text, one_set, path_then_set, path_then_text, form_of}
use Rattle.script.specs.Values.{Rules, framed}
use Rattle.script.specs.Sets.{path_set}
use Rattle.script.specs.Timestamps.{stamped}
use Rattle.script.specs.Expectations.{COLON, expectation}
use Rattle.script.specs.declared.records.Expect.{Expect}
use Rattle.script.specs.declared.roles.Key.{Key}
use Rattle.script.specs.declared.roles.Takes.{Takes}
use Rattle.script.specs.declared.roles.Takes.TheVariants.{NoLines, Options, Garbage, Verify, Texts, Store, Multiple, FirstData, FirstRaw}
use Rattle.script.specs.declared.roles.Where.{Where}
use Rattle.script.specs.declared.roles.Where.TheVariants.{InPreamble, Outside, InBlock, InEntry}
use Rattle.script.specs.declared.roles.Saying.{Saying}
use Rattle.script.specs.declared.roles.Saying.TheVariants.{Known, Pair, NoColon, Unknown, NoPair, NoRaw}
use Rattle.script.specs.declared.roles.Opening.{Opening}
use Rattle.script.specs.declared.roles.Role.{Role}
use Rattle.script.specs.declared.roles.Role.TheVariants.{Nothing, Says, Expects, Opens, Bad}
use Rattle.script.specs.declared.roles.Step.{Step}
use Rattle.script.specs.declared.refusals.Reason.{Reason}
use Rattle.script.specs.declared.records.Time.{Time}
use Rattle.script.specs.declared.refusals.Reason.TheVariants.{BraceNotClosed, UnexpectedPreambleLine, UnknownExpectation, UnknownOperation}
use Rattle.script.specs.declared.roles.Stamped.{Stamped}

abbrev pub step : Role → Where → Step
step role next = record { role = role; next = next }

abbrev pub opening : Option Time → Op → Span → Opening
opening stamp op args = record { stamp = stamp; op = op; args = args }

-- the piece of the text that a line is
abbrev pub line_span : Line → Span
line_span l = span l.start l.end

-- a line that is refused
abbrev pub refused : Reason → Role
refused n = Bad (record { words = []; reason = n })

-- ---- expectation lines

abbrev pub expecting : Answer Expect → Role
expecting (Ok e) = Expects e
expecting (Err n) = refused n

-- ---- argument lines and their values

-- the key `overrides` opens an override list
abbrev pub opens_list : Kind → Bool
opens_list a_number = false
opens_list a_flag = false
opens_list a_quoted = false
opens_list a_set = false
opens_list some_data = false
opens_list a_list = true
opens_list a_hex = false
opens_list a_version = false
opens_list a_feature_set = false
opens_list a_text = false

-- below an operation that takes lines its argument lines may follow, below another its expectations
abbrev pub below : Takes → Where
below NoLines = InEntry
below Options = InBlock Options false
below Garbage = InBlock Garbage false
below Verify = InBlock Verify false
below Texts = InBlock Texts false
below Store = InBlock Store false
below Multiple = InBlock Multiple false
below FirstData = InBlock FirstData false
below FirstRaw = InBlock FirstRaw false

-- the first `data` line of AddBuildLog, and the first `raw x"` line, end their block
abbrev pub after_key : Takes → Kind → Where
after_key NoLines kind = InEntry
after_key Options kind = InBlock Options (opens_list kind)
after_key Garbage kind = InBlock Garbage false
after_key Verify kind = InBlock Verify false
after_key Texts kind = InBlock Texts false
after_key Store kind = InBlock Store false
after_key Multiple kind = InBlock Multiple false
after_key FirstData kind = InEntry
after_key FirstRaw kind = InEntry

-- Where the line after an argument line stands. A pair, or a line of an override list that is none, leaves the list open.
abbrev pub after_saying : Takes → Saying → Where
after_saying takes (Known k v) = after_key takes (key_row k).kind
after_saying takes (Pair a b) = InBlock takes true
after_saying takes NoColon = InBlock takes false
after_saying takes (Unknown k v) = InBlock takes false
after_saying takes NoPair = InBlock takes true
after_saying takes NoRaw = InBlock takes false

abbrev pub after_opening : Role → Where
after_opening Nothing = Outside
after_opening (Says s) = Outside
after_opening (Expects e) = Outside
after_opening (Opens o) = below (form_of o.op).takes
after_opening (Bad n) = Outside

-- the refusal of a value
unfoldable pub refusal_in : {A : Type 0} → Answer A → Option Reason
refusal_in (Ok a) = None
refusal_in (Err n) = Some n

abbrev pub says_or : Saying → Option Reason → Role
says_or s None = Says s
says_or s (Some n) = refused n

-- where a comment begins behind the signs `#` at its front
unfoldable pub behind_signs : (at : ℕ) → List ℕ → ℕ
behind_signs at [] = at
behind_signs at (x ∷ xs) = let more = behind_signs (at + 1) xs in if eqb x 0x23 then more else at

-- a version that cannot be read leaves the version so far
unfoldable pub version_role : Option ProtocolVersion → Span → Role
version_role None p = Nothing
version_role (Some v) p = Says (Known Key.Protocol p)

-- a line's number and what the line is
pub record Marked : Type 0 where
  pub line : ℕ
  pub role : Role

abbrev pub marked : ℕ → Role → Marked
marked line role = record { line = line; role = role }

module _ (text : List ℕ) where
  -- ---- expectation lines

  -- a line that begins with `expect`: what follows it, trimmed, is an expectation
  unfoldable pub expect_role : Span → Role
  expect_role t = elim (behind text "expect" t) [ None ↦ refused UnknownExpectation | Some rest ↦ expecting (expectation text (trim text rest)) ]

  -- ---- the preamble

  -- a line that says the value of a key
  unfoldable pub saying : Key → Option Span → Option Role
  saying k behind_colon = do
    rest ← behind_colon
    Some (Says (Known k (trim text rest)))

  -- a comment says something where it begins with one of three words
  unfoldable pub comment_role : Span → Role
  comment_role t =
      let c = trim text (span (behind_signs t.start (bytes text t)) t.end) in
      first_of
      (saying Key.DaemonVersion (behind text "daemon:" c)
      ∷ saying Key.TrustStatus (behind text "trust:" c)
      ∷ saying Key.ServerFeatures (behind text "server_features:" c)
      ∷ [])
      Nothing

  unfoldable pub protocol_role : Option Span → Option Role
  protocol_role behind_colon = do
    rest ← behind_colon
    let v = trim text rest
    Some (version_role (version (bytes text v)) v)

  -- 3: a preamble line of no known form
  unfoldable pub word_role : Span → Role
  word_role t =
      first_of
      (protocol_role (behind text "protocol:" t)
      ∷ saying Key.Features (behind text "features:" t)
      ∷ [])
      (refused UnexpectedPreambleLine)

  -- in the preamble a blank or a colon follows `expect`
  unfoldable pub preamble_expect : Span → Role
  preamble_expect t = let role = expect_role t in if begins text "expect " t or begins text "expect:" t then role else refused UnexpectedPreambleLine

  unfoldable pub preamble_role : Span → Role
  preamble_role t =
      let comment = comment_role t in
      let expect = preamble_expect t in
      let word = word_role t in
      if is_empty t then Nothing
      else if begins text "#" t then comment
      else if begins text "expect" t then expect
      else word

  -- The preamble runs to the first line that trims to `---`. `t` is the line, trimmed.
  unfoldable pub preamble_step : (t : Span) → Step
  preamble_step t = let inside = step (preamble_role t) InPreamble in if is text "---" t then step Nothing Outside else inside

  -- ---- opening lines

  -- the path set that stands behind the operation's name, if its operation has one there
  unfoldable pub set_on : Syntax → Span → Option Span
  set_on ignored args = None
  set_on one_text args = None
  set_on one_set args = Some args
  set_on path_then_set args = Some (cut_or text BLANK args).after
  set_on path_then_text args = None

  -- 10: brace not closed
  unfoldable pub not_closed : Span → Bool
  not_closed p = elim (path_set text p) [ None ↦ true | Some s ↦ false ]

  unfoldable pub open_on : Option Span → Bool
  open_on None = false
  open_on (Some p) = not_closed p

  -- 9: unknown operation
  unfoldable pub with_name : Option Time → Option Op → (args : Span) → Role
  with_name stamp None args = refused UnknownOperation
  with_name stamp (Some op) args = if open_on (set_on (form_of op).syntax args) then refused BraceNotClosed else Opens (opening stamp op args)

  -- The operation's name ends at the first blank; what follows is trimmed.
  unfoldable pub with_stamp : Answer Stamped → Role
  with_stamp (Err n) = refused n
  with_stamp (Ok s) = let c = cut_or text BLANK s.rest in with_name s.stamp (named (bytes text c.before)) (trim text c.after)

  unfoldable pub opening_role : Span → Role
  opening_role t = with_stamp (stamped text t)

  -- ---- below the `---` line

  -- blank lines and lines beginning with `#` but not `# nwscript` are skipped; any other line opens an entry
  unfoldable pub skipped : Span → Bool
  skipped t = is_empty t or (begins text "#" t & not (begins text "# nwscript" t))

  unfoldable pub outside_step : (t : Span) → Step
  outside_step t =
      let role = opening_role t in
      let opened = step role (after_opening role) in
      if skipped t then step Nothing Outside else opened

  -- Below the argument lines: indented blanks, comments and `expect` lines; else the entry has ended. `inward` says whether the line is indented.
  unfoldable pub entry_step : (inward : Bool) → (t : Span) → Step
  entry_step inward t =
      let expectation = step (expect_role t) InEntry in
      let elsewhere = outside_step t in
      if inward & (is_empty t or begins text "#" t) then step Nothing InEntry
      else if inward & begins text "expect" t then expectation
      else elsewhere

  -- ---- argument lines

  -- Argument lines end at a line that is not indented, is blank, or begins with `#` or `expect`.
  unfoldable pub argument_line : (inward : Bool) → (t : Span) → Bool
  argument_line inward t = inward & not (is_empty t or begins text "#" t or begins text "expect" t)

  -- "name" = "value": both end at the first quote
  unfoldable pub pair_in : Span → Option Saying
  pair_in t = do
    a ← behind text "\"" t
    name ← cut text QUOTE a
    b ← behind text "=" (trim text name.after)
    c ← behind text "\"" (trim text b)
    value ← cut text QUOTE c
    Some (Pair name.before value.before)

  -- key, colon, value
  unfoldable pub keyed : List Key → Cut → Saying
  keyed keys c =
      let key = trim text c.before in
      let value = trim text c.after in
      elim (key_in keys (bytes text key)) [ None ↦ Unknown key value | Some k ↦ Known k value ]

  unfoldable pub key_saying : List Key → Span → Saying
  key_saying keys t = elim (cut text COLON t) [ None ↦ NoColon | Some c ↦ keyed keys c ]

  unfoldable pub raw_saying : Span → Saying
  raw_saying t = elim (behind text "raw x\"" t) [ None ↦ NoRaw | Some hex ↦ Known Key.Raw hex ]

  -- in an open override list a line that begins with `"` is a pair or nothing
  unfoldable pub option_saying : (list_open : Bool) → Span → Saying
  option_saying list_open t =
      let in_list : Saying = elim (pair_in t) [ None ↦ NoPair | Some p ↦ p ] in
      let other = key_saying (keys_of Options) t in
      if list_open & begins text "\"" t then in_list else other

  -- what an argument line says
  unfoldable pub saying_in : Takes → (list_open : Bool) → Span → Saying
  saying_in NoLines list_open t = NoColon
  saying_in Options list_open t = option_saying list_open t
  saying_in Garbage list_open t = key_saying (keys_of Garbage) t
  saying_in Verify list_open t = key_saying (keys_of Verify) t
  saying_in Texts list_open t = key_saying (keys_of Texts) t
  saying_in Store list_open t = key_saying (keys_of Store) t
  saying_in Multiple list_open t = key_saying (keys_of Multiple) t
  saying_in FirstData list_open t = key_saying (keys_of FirstData) t
  saying_in FirstRaw list_open t = raw_saying t

module _ (rules : Rules) (text : List ℕ) where
  -- the refusal of a value, kept or not
  unfoldable pub refusal_of_kind : Kind → Span → Option Reason
  refusal_of_kind a_number v = None
  refusal_of_kind a_flag v = None
  refusal_of_kind a_quoted v = refusal_in (rules.unquote (bytes text v))
  refusal_of_kind a_set v = if not_closed text v then Some BraceNotClosed else None
  refusal_of_kind some_data v = refusal_in (framed rules text v)
  refusal_of_kind a_list v = None
  refusal_of_kind a_hex v = refusal_in (rules.hex (bytes text v))
  refusal_of_kind a_version v = None
  refusal_of_kind a_feature_set v = None
  refusal_of_kind a_text v = None

  unfoldable pub refusal_of : Saying → Option Reason
  refusal_of (Known k v) = refusal_of_kind (key_row k).kind v
  refusal_of (Pair a b) = None
  refusal_of NoColon = None
  refusal_of (Unknown k v) = None
  refusal_of NoPair = None
  refusal_of NoRaw = None

  unfoldable pub argument_step : Takes → (list_open : Bool) → (t : Span) → Step
  argument_step takes list_open t = let s = saying_in text takes list_open t in step (says_or s (refusal_of s)) (after_saying takes s)

  unfoldable pub block_step : Takes → (list_open inward : Bool) → (t : Span) → Step
  block_step takes list_open inward t =
      let argument = argument_step takes list_open t in
      let elsewhere = entry_step text inward t in
      if argument_line text inward t then argument else elsewhere

  -- ---- every line

  unfoldable pub step_at : Where → (inward : Bool) → (t : Span) → Step
  step_at InPreamble inward t = preamble_step text t
  step_at Outside inward t = outside_step text t
  step_at (InBlock takes list_open) inward t = block_step takes list_open inward t
  step_at InEntry inward t = entry_step text inward t

  -- "begins with" is about the trimmed line, "indented" about the line as it stands in the text
  unfoldable pub step_of : Where → Line → Step
  step_of w l = step_at w (indented (bytes text (line_span l))) (trim text (line_span l))

  -- what the lines are, one after the other
  unfoldable pub roles_from : Where → List Line → List Marked
  roles_from w [] = []
  roles_from w (l ∷ ls) =
      let s = step_of w l in
      marked l.number s.role ∷ roles_from s.next ls

  unfoldable pub roles : List Line → List Marked
  roles ls = roles_from InPreamble ls
