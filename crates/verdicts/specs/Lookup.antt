-- Document 01, "Verdicts": the value looked up is that of `extract_result_value`, or the handshake text; lists are joined by comma and blank, in
-- `[` `]` or, for features, `{ ` and ` }`. Assumes nothing.
use Rattle.std.specs.Prelude.{ℕ, Bool, true, false, List, [], ◌∷◌, ◌++◌, eqb, if◌then◌else◌, None, Option, Some, option_map, unwrap_or}
use Prim.Native.String.{String}
use Rattle.text.specs.Literal.{utf8, spells}
use Rattle.values.specs.Decimal.{decimal}
use Rattle.verdicts.specs.Expected.{Expected, terminal, result, result_field, error, stderr_count, daemon, trust, server_features}
use Rattle.verdicts.specs.Told.{Result, absent, other, u64, str, path_info, string_set, collect_garbage, substitutable_path_info, missing, Response, Info, Subject, greeting, reply}

-- the texts of a list, `, ` between them
unfoldable pub joined : List (List ℕ) → List ℕ
joined [] = []
joined (x ∷ []) = x
joined (x ∷ y ∷ rest) = x ++ utf8 ", " ++ joined (y ∷ rest)

unfoldable pub bracketed : List (List ℕ) → List ℕ
bracketed xs = utf8 "[" ++ joined xs ++ utf8 "]"

unfoldable pub braced : List (List ℕ) → List ℕ
braced xs = utf8 "{ " ++ joined xs ++ utf8 " }"

-- a flag is the number 1 or 0
unfoldable pub flag : Bool → List ℕ
flag true = utf8 "1"
flag false = utf8 "0"

-- a field of a result: its name, and its value unless that is missing
pub record Field : Type 0 where
  pub name : String
  pub value : Option (List ℕ)

abbrev pub named : String → Option (List ℕ) → Field
named name value = record { name = name; value = value }

-- the fields that a result has
unfoldable pub fields : Result → List Field
fields absent = []
fields other = []
fields (u64 n) = []
fields (str s) = []
fields (path_info p) =
    named "valid" (Some (flag p.valid))
    ∷ named "deriver" p.deriver
    ∷ named "narHash" p.nar_hash
    ∷ named "narSize" (option_map decimal p.nar_size)
    ∷ named "references" (option_map bracketed p.references)
    ∷ []
fields (string_set l) = []
fields (collect_garbage freed) = named "bytes_freed" (Some (decimal freed)) ∷ []
fields (substitutable_path_info valid download nar) =
    named "valid" (Some (flag valid))
    ∷ named "downloadSize" (option_map decimal download)
    ∷ named "narSize" (option_map decimal nar)
    ∷ []
fields (missing download nar) = named "downloadSize" (Some (decimal download)) ∷ named "narSize" (Some (decimal nar)) ∷ []

-- the value of the field of that name
unfoldable pub value_in : List Field → (name : List ℕ) → Option (List ℕ)
value_in [] name = None
value_in (f ∷ fs) name = if spells f.name name then f.value else value_in fs name

-- the value of a result where no field is named
unfoldable pub whole_value : Result → Option (List ℕ)
whole_value absent = None
whole_value other = None
whole_value (u64 n) = Some (decimal n)
whole_value (str s) = Some s
whole_value (path_info p) = None
whole_value (string_set l) = Some (bracketed l)
whole_value (collect_garbage freed) = None
whole_value (substitutable_path_info valid download nar) = None
whole_value (missing download nar) = None

-- ---- the handshake's texts

unfoldable pub daemon_text : Info → List ℕ
daemon_text i = unwrap_or i.daemon_nix_version (utf8 "unknown")

unfoldable pub trust_of : ℕ → List ℕ
trust_of n = if eqb n 1 then utf8 "trusted" else if eqb n 2 then utf8 "not-trusted" else utf8 "unknown"

unfoldable pub trust_text : Info → List ℕ
trust_text i = unwrap_or (option_map trust_of i.trust_status) (utf8 "unknown")

unfoldable pub features_text : Info → List ℕ
features_text i = braced i.server_features

-- ---- the value looked up, unless it is missing

-- The name of the last message is compared where it is; what the handshake told is not looked up in a response.
unfoldable pub looked_in : Response → Expected → Option (List ℕ)
looked_in r (terminal name) = None
looked_in r (result m) = whole_value r.result
looked_in r (result_field field m) = value_in (fields r.result) field
looked_in r (error m) = r.error
looked_in r (stderr_count m) = Some (decimal r.stderr_count)
looked_in r (daemon m) = None
looked_in r (trust m) = None
looked_in r (server_features m) = None

-- and only that is looked up in the handshake's information
unfoldable pub told_in : Info → Expected → Option (List ℕ)
told_in i (terminal name) = None
told_in i (result m) = None
told_in i (result_field field m) = None
told_in i (error m) = None
told_in i (stderr_count m) = None
told_in i (daemon m) = Some (daemon_text i)
told_in i (trust m) = Some (trust_text i)
told_in i (server_features m) = Some (features_text i)

unfoldable pub looked : Subject → Expected → Option (List ℕ)
looked (greeting i) e = told_in i e
looked (reply r) e = looked_in r e

-- the bytes of a value that is there; a missing one has none
unfoldable pub present_bytes : Option (List ℕ) → List ℕ
present_bytes None = []
present_bytes (Some value) = value
