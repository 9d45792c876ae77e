-- What our records hold, as the definitions above speak of it: a place is the bytes that stand there. And which places lie inside: 31 speaks of an
-- expectation's, 32 of those of a response or of the handshake's information. Assumes nothing.
use Rattle.std.specs.Prelude.{ℕ, ◌-◌, Bool, true, List, [], ◌∷◌, map, length, take, drop, get_or, leb, None, Option, Some}
use Rattle.text.specs.Base.{◌&◌, part}
use Rattle.script.specs.Reading.{room}
use Rattle.script.specs.declared.records.Place.{Place}
use Rattle.script.specs.declared.records.Items.{Items}
use Rattle.script.specs.declared.records.Matcher.{Matcher}
use Rattle.script.specs.declared.records.Matcher.TheVariants.{Exact, Regex, GreaterThan, LessThan, GreaterOrEqual, LessOrEqual}
use Rattle.script.specs.declared.records.Expect.{Expect}
use Rattle.script.specs.declared.records.Expect.TheVariants.{Terminal, Result, ResultField, Error, StderrCount, Daemon, Trust, ServerFeatures}
use Rattle.script.specs.declared.response.PathInfoResult.{PathInfoResult}
use Rattle.script.specs.declared.response.ResultData.{ResultData}
use Rattle.script.specs.declared.response.DaemonResponse.{DaemonResponse}
use Rattle.script.specs.declared.response.HandshakeInfo.{HandshakeInfo}
use Rattle.verdicts.specs.Expected.{Matching, exact, regex, greater_than, less_than, greater_or_equal, less_or_equal, Expected}
use Rattle.verdicts.specs.Expected as expected
use Rattle.verdicts.specs.Told.{PathInfo, Response, Info}
use Rattle.verdicts.specs.Told as told

-- ---- what an expectation says

-- the bytes at a place
abbrev pub text_at : (bytes : List ℕ) → Place → List ℕ
text_at bytes p = part bytes p.start p.len

unfoldable pub matching_of : (text : List ℕ) → Matcher → Matching
matching_of text (Exact p) = exact (text_at text p)
matching_of text (Regex p) = regex (text_at text p)
matching_of text (GreaterThan n) = greater_than n
matching_of text (LessThan n) = less_than n
matching_of text (GreaterOrEqual n) = greater_or_equal n
matching_of text (LessOrEqual n) = less_or_equal n

unfoldable pub expected_of : (text : List ℕ) → Expect → Expected
expected_of text (Terminal p) = expected.terminal (text_at text p)
expected_of text (Result m) = expected.result (matching_of text m)
expected_of text (ResultField p m) = expected.result_field (text_at text p) (matching_of text m)
expected_of text (Error m) = expected.error (matching_of text m)
expected_of text (StderrCount m) = expected.stderr_count (matching_of text m)
expected_of text (Daemon m) = expected.daemon (matching_of text m)
expected_of text (Trust m) = expected.trust (matching_of text m)
expected_of text (ServerFeatures m) = expected.server_features (matching_of text m)

-- ---- what a response holds

unfoldable pub text_given : (bytes : List ℕ) → Option Place → Option (List ℕ)
text_given bytes None = None
text_given bytes (Some p) = Some (text_at bytes p)

-- The name of the last message stands in the bytes.
unfoldable pub terminal_bytes : (bytes : List ℕ) → DaemonResponse → List ℕ
terminal_bytes bytes r = text_at bytes r.terminal

-- a text of the table of places: where it starts, and how many bytes it has
unfoldable pub item_text : (bytes item : List ℕ) → List ℕ
item_text bytes item = part bytes (get_or item 0 0) (get_or item 1 0)

-- the records of a range of a table
abbrev pub ranged : {A : Type 0} → (table : List A) → Items → List A
ranged table r = take r.count (drop r.first table)

module _ (bytes : List ℕ) (lists : List (List ℕ)) where
  unfoldable pub texts_in : Items → List (List ℕ)
  texts_in r = map (item_text bytes) (ranged lists r)

  unfoldable pub texts_given : Option Items → Option (List (List ℕ))
  texts_given None = None
  texts_given (Some r) = Some (texts_in r)

  unfoldable pub path_info_of : PathInfoResult → PathInfo
  path_info_of p = record {
    valid = p.valid;
    deriver = text_given bytes p.deriver;
    nar_hash = text_given bytes p.nar_hash;
    references = texts_given p.references;
    nar_size = p.nar_size;
  }

  unfoldable pub result_of : ResultData → told.Result
  result_of ResultData.Absent = told.absent
  result_of (ResultData.U64 n) = told.u64 n
  result_of (ResultData.Str p) = told.str (text_at bytes p)
  result_of (ResultData.PathInfo p) = told.path_info (path_info_of p)
  result_of (ResultData.StringSet r) = told.string_set (texts_in r)
  result_of ResultData.StringMap = told.other
  result_of ResultData.None = told.other
  result_of (ResultData.CollectGarbage freed) = told.collect_garbage freed
  result_of (ResultData.SubstitutablePathInfo valid download nar) = told.substitutable_path_info valid download nar
  result_of (ResultData.Missing download nar) = told.missing download nar
  result_of ResultData.Framed = told.other
  result_of ResultData.Raw = told.other

  unfoldable pub response_of : DaemonResponse → Response
  response_of r = record {
    terminal = terminal_bytes bytes r;
    stderr_count = r.stderr_count;
    result = result_of r.result;
    error = text_given bytes r.error;
  }

  unfoldable pub info_of : HandshakeInfo → Info
  info_of i = record {
    server_features = texts_in i.server_features;
    daemon_nix_version = text_given bytes i.daemon_nix_version;
    trust_status = i.trust_status;
  }

-- ---- what lies inside

-- a part of n bytes, or of n records; no sum is made, since places may be forged
unfoldable pub inside : (n start len : ℕ) → Bool
inside n start len = leb start n & leb len (n - start)

unfoldable pub place_in : ℕ → Place → Bool
place_in n p = inside n p.start p.len

unfoldable pub maybe_in : ℕ → Option Place → Bool
maybe_in n None = true
maybe_in n (Some p) = place_in n p

unfoldable pub matcher_in : ℕ → Matcher → Bool
matcher_in n (Exact p) = place_in n p
matcher_in n (Regex p) = place_in n p
matcher_in n (GreaterThan k) = true
matcher_in n (LessThan k) = true
matcher_in n (GreaterOrEqual k) = true
matcher_in n (LessOrEqual k) = true

-- every part of an expectation lies inside a text of n bytes
unfoldable pub expect_in : ℕ → Expect → Bool
expect_in n (Terminal p) = place_in n p
expect_in n (Result m) = matcher_in n m
expect_in n (ResultField p m) = place_in n p & matcher_in n m
expect_in n (Error m) = matcher_in n m
expect_in n (StderrCount m) = matcher_in n m
expect_in n (Daemon m) = matcher_in n m
expect_in n (Trust m) = matcher_in n m
expect_in n (ServerFeatures m) = matcher_in n m

unfoldable pub items_in : ℕ → List (List ℕ) → Bool
items_in n [] = true
items_in n (item ∷ rest) = inside n (get_or item 0 0) (get_or item 1 0) & items_in n rest

-- n bytes are lent, and a table of places
module _ (n : ℕ) (lists : List (List ℕ)) where
  -- a list: its range in the table, of which only the first 32,768 records count, and then each text of it in the bytes
  unfoldable pub list_in : Items → Bool
  list_in r = inside (room (length lists)) r.first r.count & items_in n (ranged lists r)

  unfoldable pub maybe_list_in : Option Items → Bool
  maybe_list_in None = true
  maybe_list_in (Some r) = list_in r

  unfoldable pub result_in : ResultData → Bool
  result_in ResultData.Absent = true
  result_in (ResultData.U64 v) = true
  result_in (ResultData.Str p) = place_in n p
  result_in (ResultData.PathInfo p) = maybe_in n p.deriver & maybe_in n p.nar_hash & maybe_list_in p.references
  result_in (ResultData.StringSet r) = list_in r
  result_in ResultData.StringMap = true
  result_in ResultData.None = true
  result_in (ResultData.CollectGarbage freed) = true
  result_in (ResultData.SubstitutablePathInfo valid download nar) = true
  result_in (ResultData.Missing download nar) = true
  result_in ResultData.Framed = true
  result_in ResultData.Raw = true

  -- every part of a response
  unfoldable pub response_in : DaemonResponse → Bool
  response_in r = place_in n r.terminal & result_in r.result & maybe_in n r.error

  -- every part of the handshake's information
  unfoldable pub info_in : HandshakeInfo → Bool
  info_in i = list_in i.client_features & list_in i.server_features & maybe_in n i.daemon_nix_version
