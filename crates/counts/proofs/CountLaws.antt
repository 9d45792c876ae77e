-- Laws of counts: what the code counts, and that a value takes no more items or bytes than it is long. Assumes nothing.
use Prim.Native.Nat.{ℕ, zero, suc, ◌+◌, ◌-◌, ◌≤◌}
use mathlib.Core.Path.{◌≡◌, refl, sym, ap, ◌∙◌}
use mathlib.Core.Bool.{Bool, true, false}
use mathlib.Core.List.{List, [], ◌∷◌}
use native.Mathlib.Omega.{arith}
use lib.Dec.{eqb}
use lib.ListN.{length, length-map}
use borrow.Author.Tests.{eqb-false}
use Rattle.std.proofs.lemmas.List.Sums.{count_by-le-length, sum_by-cons}
use Rattle.std.specs.Prelude.{count_by, cond, if◌then◌else◌, None, Option, Some}
use Rattle.text.specs.Base.{◌&◌, BLANK}
use Rattle.values.specs.Hex.{hex_decoded}
use Rattle.values.specs.Unquote.{unquoted}
use Rattle.text.specs.Parts.{span, part_of, starts_with, position, split_from, split}
use Rattle.text.specs.Words.{words_from, words}
use Rattle.text.specs.Trim.{trim_place, white_bytes, size_of}
use Rattle.text.specs.declared.parts.Span.{Span}
use Rattle.text.proofs.LiteralLaws.{codes, begins_as}
use Rattle.text.proofs.Scan.{by_cases, by_test, both}
use Rattle.hexadecimal.proofs.HexLaws.{hex_half}
use Rattle.unquote.proofs.UnquoteLaws.{unquoted_shorter}
use Rattle.wire.specs.declared.ops.Op.{Op}
use Rattle.wire.specs.declared.ops.Op.TheVariants.{IsValidPath, QueryReferrers, AddToStore, AddTextToStore, BuildPaths, EnsurePath, AddTempRoot, AddIndirectRoot, SyncWithGC, FindRoots, QueryDeriver, SetOptions, CollectGarbage, QuerySubstitutablePathInfo, QueryDerivationOutputs, QueryAllValidPaths, QueryPathInfo, QueryDerivationOutputNames, QueryPathFromHashPart, QuerySubstitutablePathInfos, QueryValidPaths, QuerySubstitutablePaths, QueryValidDerivers, OptimiseStore, VerifyStore, BuildDerivation, AddSignatures, NarFromPath, AddToStoreNar, QueryMissing, QueryDerivationOutputMap, RegisterDrvOutput, QueryRealisation, AddMultipleToStore, AddBuildLog, BuildPathsWithResults, AddPermRoot}
use Rattle.script.specs.Answers.{first_of}
use Rattle.script.specs.Pieces.{Cut, cut_into, cut_at, bytes, is_empty, inner, begins, ends, behind, trim, cut_or}
use Rattle.script.specs.Pieces as Pieces
use Rattle.script.specs.Operations.{form_of, Syntax, ignored, one_text, one_set, path_then_set, path_then_text}
use Rattle.script.specs.Roles.{set_on}
use Rattle.script.specs.Sets.{COMMA, CLOSING-BRACE, non_empty, trimmed_items, path_items, braced_set, plain_set, features}
use Rattle.script.specs.Values.{inline_of, framed}
use Rattle.script.specs.Contents.{given_bytes, given_data, unquoted_of, hex_of, data_of}
use Rattle.script.specs.Layout.{stored_of}
use Rattle.script.specs.Inside.{In}
use Rattle.tables.proofs.ItemLaws.{items_by_lem, end_fits}
use Rattle.storing.proofs.ValueLaws.{no_quotes}
use Rattle.tables.specs.SetRead.{items_or, braced_items, items_by}
use Rattle.counts.specs.Counts.{set_count, quoted_count, data_count, raw_count, feature_count, inline_items}
use Rattle.script.proofs.Inside.{length-bytes, trim_in, position_in}
use Rattle.pieces.proofs.PieceLaws.{trim_end}
use Rattle.pieces.proofs.BehindLaws.{behind-none, behind-some, behind_in, cut-none, cut-some}
use Rattle.pieces.proofs.CutLaws.{uncut, cut_there, all_before, parted}
use Rattle.script.proofs.RolesInside.{cut_or_in}

-- ---- the parts between separators

-- one more than there are separators, wherever the walk begins
pub parts_are : (b : ℕ) (s : List ℕ) (start at : ℕ) → length (split_from b start at s) ≡ count_by (λ x. eqb x b) s + 1
unfolding split_from
parts_are b [] start at = refl
parts_are b (x ∷ s) start at =
    go (eqb x b) (parts_are b s start (at + 1)) (parts_are b s (at + 1) (at + 1)) ∙ ap (λ (n : ℕ). n + 1) (sym (sum_by-cons (λ y. cond (eqb y b) 1 0) x s))
  where
    go : (t : Bool) → length (split_from b start (at + 1) s) ≡ count_by (λ x. eqb x b) s + 1 → length (split_from b (at + 1) (at + 1) s) ≡ count_by (λ x. eqb x b) s + 1
        → length (if t then (part_of start at true ∷ split_from b (at + 1) (at + 1) s) else split_from b start (at + 1) s) ≡ cond t 1 0 + count_by (λ x. eqb x b) s + 1
    go true p q = omega arith
    go false p q = omega arith

split_most : (b : ℕ) (s : List ℕ) → length (split b s) ≤ length s + 1
unfolding split
split_most b s = omega (arith, parts_are b s 0 0, count_by-le-length (λ x. eqb x b) s)

-- ---- pieces

module _ (text : List ℕ) (p : Span) (i : In text p) where
  trim_start : p.start ≤ (trim text p).start
  unfolding trim
  trim_start = omega arith

  trim_stop : (trim text p).end ≤ p.end
  unfolding trim
  trim_stop = trim_end text p (bytes text p) (trim_place (bytes text p)) refl refl i

-- ---- path sets

module _ (text : List ℕ) (p : Span) where
  pub items_none : is_empty p ≡ true → 0 ≡ length (path_items text p)
  unfolding path_items
  items_none e = rw e

  items-some : is_empty p ≡ false → length (path_items text p) ≡ length (split COMMA (bytes text p))
  unfolding path_items trimmed_items Pieces.split
  items-some e =
      rw e
      (length-map (Pieces.split text COMMA p) (trim text) ∙ length-map (split COMMA (bytes text p)) _)

  pub items_counted : (n : ℕ) → is_empty p ≡ false → n ≡ length (split COMMA (bytes text p)) → n ≡ length (path_items text p)
  items_counted n m e = e ∙ sym (items-some m)

  items_fit : In text p → p.start + length (path_items text p) ≤ p.end + 1
  items_fit i = go (is_empty p) refl
    where
      go : (t : Bool) → is_empty p ≡ t → p.start + length (path_items text p) ≤ p.end + 1
      go true e = omega (arith, items_none e, i.forward)
      go false e = omega (arith, items-some e, split_most COMMA (bytes text p), length-bytes text p i, i.forward)

-- f is where the first closing brace stands
module _ (text : List ℕ) (p : Span) (f : Option ℕ) (e : f ≡ position CLOSING-BRACE (bytes text p)) where
  pub not_braced : f ≡ None → 0 ≡ length (braced_items text p)
  unfolding braced_items items_or braced_set
  not_braced h = rw (cut-none text p.start p.end CLOSING-BRACE f e h)

  pub braced : (n k : ℕ) (q : Span) → f ≡ Some n → q ≡ trim text (span p.start (p.start + n)) → k ≡ length (path_items text q) → k ≡ length (braced_items text p)
  unfolding braced_items items_or braced_set cut_at
  braced n k q h z c = rw (cut-some text p.start p.end CLOSING-BRACE f e n h, ← z) c

braced_fit : (text : List ℕ) (p : Span) → In text p → p.start + length (braced_items text p) ≤ p.end
unfolding position
braced_fit text p i = go (position CLOSING-BRACE (bytes text p)) refl
  where
    go : (o : Option ℕ) → position CLOSING-BRACE (bytes text p) ≡ o → p.start + length (braced_items text p) ≤ p.end
    go None e = omega (arith, not_braced text p None (sym e) refl, i.forward)
    go (Some n) e =
        let b : Span = span p.start (p.start + n) in
        let l = position_in CLOSING-BRACE 0 n (bytes text p) e in
        let j : In text b = record { forward = omega arith; inside = omega (arith, length-bytes text p i, i.inside) } in
        omega (arith, braced text p (Some n) (sym e) n _ (trim text b) refl refl refl, items_fit text (trim text b) (trim_in text b j), trim_start text b j, trim_stop text b j, length-bytes text p i, i.forward)

-- by what stands behind the opening brace
module _ (text : List ℕ) (v : Span) where
  -- q is the value trimmed, b whether it begins with a brace
  module _ (q : Span) (z : q ≡ trim text v) (b : Bool) (e : b ≡ starts_with (codes "{") (bytes text q)) where
    pub set-braced : (n : ℕ) → b ≡ true → n ≡ length (braced_items text (span (q.start + 1) q.end)) → n ≡ set_count text v
    unfolding set_count items_by
    set-braced n t k = k ∙ ap length (sym (items_by_lem text v (Some (span (q.start + 1) q.end)) (rw (← z) (behind-some text q "{" b e t))))

    set-plain : b ≡ false → set_count text v ≡ length (if is_empty q then [] else (q ∷ []))
    unfolding set_count items_by plain_set
    set-plain f = rw z (ap length (items_by_lem text v None (rw (← z) (behind-none text q "{" b e f))))

    pub set_empty : b ≡ false → is_empty q ≡ true → 0 ≡ set_count text v
    set_empty f h = sym (rw h at (set-plain f))

    pub set_one : b ≡ false → is_empty q ≡ false → 1 ≡ set_count text v
    set_one f h = sym (rw h at (set-plain f))

    braces_in : In text q → b ≡ true → In text (span (q.start + 1) q.end)
    braces_in i t = behind_in text q.start q.end 1 b (codes "{") e t i refl

some_stand : (q : Span) → is_empty q ≡ false → q.start ≡ q.end → ⊥
unfolding is_empty
some_stand q h = eqb-false q.start q.end h

-- a path set has no more items than bytes
pub set-fits : (text : List ℕ) (v : Span) → In text v → v.start + set_count text v ≤ v.end
set-fits text v i = go (starts_with (codes "{") (bytes text (trim text v))) refl (is_empty (trim text v)) refl
  where
    q : Span
    q = trim text v

    j : In text q
    j = trim_in text v i

    go : (b : Bool) → starts_with (codes "{") (bytes text q) ≡ b → (t : Bool) → is_empty q ≡ t → v.start + set_count text v ≤ v.end
    go true e t h =
        omega (
          arith,
          set-braced text v q refl true (sym e) _ refl refl,
          braced_fit text (span (q.start + 1) q.end) (braces_in text v q refl true (sym e) j refl),
          trim_start text v i,
          trim_stop text v i,
        )
    go false e true h = omega (arith, set_empty text v q refl false (sym e) refl h, i.forward)
    go false e false h = omega (arith, set_one text v q refl false (sym e) refl h, trim_start text v i, trim_stop text v i, j.forward, some_stand q h)

-- what is counted fits as well
pub count_fits : (text : List ℕ) (v : Span) (n : ℕ) → In text v → n ≡ set_count text v → v.start + n ≤ v.end
count_fits text v n i e = rw (← e) at (set-fits text v i)

pub ruleset set-counts = (set-braced, set_empty, set_one, count_fits)

-- ---- values that go into the store

module _ (text : List ℕ) (v : Span) (n : ℕ) where
  pub quoted_counted : n ≡ length (unquoted (bytes text v)) → n ≡ quoted_count text v
  unfolding quoted_count unquoted_of given_bytes
  quoted_counted e = e

  pub quoted_fits : In text v → n ≡ length (unquoted (bytes text v)) → v.start + n ≤ v.end
  quoted_fits i e = omega (arith, unquoted_shorter (bytes text v), length-bytes text v i, i.forward)

  pub hex_fits : In text v → n ≡ length (hex_decoded (bytes text v)) → v.start + n ≤ v.end
  hex_fits i e = omega (arith, hex_half (bytes text v), length-bytes text v i, i.forward)

module _ (text : List ℕ) (v : Span) where
  pub raw_counted : (n : ℕ) → n ≡ length (hex_decoded (bytes text v)) → n ≡ raw_count text v
  unfolding raw_count hex_of given_bytes
  raw_counted n e = e ∙ ap length (no_quotes (bytes text v))

  -- b tells whether it begins so
  module _ (b : Bool) (e : b ≡ starts_with (codes "x\"") (bytes text v)) where
    pub data_counted : (n : ℕ) → b ≡ true → n ≡ length (hex_decoded (bytes text (span (v.start + 2) v.end))) → n ≡ data_count text v
    unfolding data_count data_of given_data stored_of framed first_of inline_of
    data_counted n t k = simp (behind-some text v "x\"" b e t, k, no_quotes (bytes text (span (v.start + 2) v.end)))

    pub no_data : b ≡ false → 0 ≡ data_count text v
    unfolding data_count data_of given_data stored_of framed first_of inline_of
    no_data f = go (behind text "@file:" v) refl
      where
        go : (o : Option Span) → behind text "@file:" v ≡ o → 0 ≡ data_count text v
        go None q = simp (behind-none text v "x\"" b e f, q)
        go (Some r) q = simp (behind-none text v "x\"" b e f, q)

    pub data_fits : (n : ℕ) → In text v → b ≡ true → n ≡ length (hex_decoded (bytes text (span (v.start + 2) v.end))) → v.start + n ≤ v.end
    data_fits n i t k = omega (arith, hex_fits text (span (v.start + 2) v.end) n (behind_in text v.start v.end 2 b (codes "x\"") e t i refl) k)

pub nothing_fits : (text : List ℕ) (v : Span) → In text v → v.start + 0 ≤ v.end
nothing_fits text v i = omega (arith, i.forward)

-- a value takes no more bytes of the store than it has
module _ (text : List ℕ) (v : Span) (i : In text v) where
  pub quoted_fit : v.start + quoted_count text v ≤ v.end
  quoted_fit = quoted_fits text v (quoted_count text v) i (sym (quoted_counted text v (length (unquoted (bytes text v))) refl))

  pub raw_fit : v.start + raw_count text v ≤ v.end
  raw_fit = hex_fits text v (raw_count text v) i (sym (raw_counted text v (length (hex_decoded (bytes text v))) refl))

  pub data_fit : v.start + data_count text v ≤ v.end
  data_fit = go (starts_with (codes "x\"") (bytes text v)) refl
    where
      go : (b : Bool) → starts_with (codes "x\"") (bytes text v) ≡ b → v.start + data_count text v ≤ v.end
      go true e = data_fits text v true (sym e) (data_count text v) i refl (sym (data_counted text v true (sym e) (length (hex_decoded (bytes text (span (v.start + 2) v.end)))) refl refl))
      go false e = omega (arith, no_data text v false (sym e) refl, i.forward)

-- ---- words

last_most : (start at : ℕ) → start ≤ at → length (if eqb start at then [] else (span start at ∷ [])) ≤ 0 + (at - start)
last_most start at h =
    by_test (λ l. length l ≤ 0 + (at - start)) (eqb start at) [] (span start at ∷ []) (λ t. omega arith)
    (λ f. let m = eqb-false start at f in omega (arith, m))

words_most : (skip start : ℕ) (s : List ℕ) (at : ℕ) → start ≤ at → length (words_from skip start at s) ≤ length s + (at - start)
unfolding words_from
words_most zero start [] at h = last_most start at h
words_most (suc skip) start [] at h = last_most start at h
words_most (suc skip) start (x ∷ s) at h = omega (arith, words_most skip (at + 1) s (at + 1) (omega arith))
words_most zero start (x ∷ s) at h =
    go (eqb (size_of white_bytes (x ∷ s)) 0) (eqb start at) (words_most 0 start s (at + 1) (omega arith)) (words_most (size_of white_bytes (x ∷ s) - 1) (at + 1) s (at + 1) (omega arith))
  where
    skipped : ℕ
    skipped = size_of white_bytes (x ∷ s) - 1

    go : (t u : Bool) → length (words_from 0 start (at + 1) s) ≤ length s + (at + 1 - start) → length (words_from skipped (at + 1) (at + 1) s) ≤ length s + (at + 1 - (at + 1))
        → length (if t then words_from 0 start (at + 1) s else if u then words_from skipped (at + 1) (at + 1) s else (span start at ∷ words_from skipped (at + 1) (at + 1) s)) ≤ length (x ∷ s) + (at - start)
    go true u longer apart = omega arith
    go false true longer apart = omega arith
    go false false longer apart = omega arith

-- ---- items between commas that are not empty

filled_most : (qs : List Span) → length (non_empty qs) ≤ length qs
unfolding non_empty
filled_most [] = omega arith
filled_most (q ∷ qs) =
    let h = filled_most qs in
    by_cases (λ l. length l ≤ length (q ∷ qs)) (is_empty q) (non_empty qs) (q ∷ non_empty qs) (omega arith) (omega arith)

filled_fit : (text : List ℕ) (p : Span) → In text p → length (non_empty (trimmed_items text p)) ≤ p.end - p.start + 1
unfolding trimmed_items Pieces.split
filled_fit text p i =
    let items = Pieces.split text COMMA p in
    omega (arith, filled_most (trimmed_items text p), length-map items (trim text), length-map (split COMMA (bytes text p)) (λ r. span (p.start + r.start) (p.start + r.end)), split_most COMMA (bytes text p), length-bytes text p i)

words_fit : (text : List ℕ) (p : Span) → In text p → length (Pieces.words text p) ≤ p.end - p.start
unfolding Pieces.words words
words_fit text p i =
    omega (arith, length-map (words (bytes text p)) (λ r. span (p.start + r.start) (p.start + r.end)), words_most 0 0 (bytes text p) 0 (omega arith), length-bytes text p i)

-- ---- feature sets

module _ (text : List ℕ) (v : Span) (i : In text v) where
  features_braced : begins text "{" (trim text v) & ends text (trim text v) CLOSING-BRACE ≡ true → feature_count text v ≡ length (non_empty (trimmed_items text (inner (trim text v))))
  unfolding feature_count features
  features_braced e = rw e

  features_apart : begins text "{" (trim text v) & ends text (trim text v) CLOSING-BRACE ≡ false → feature_count text v ≡ length (Pieces.words text (trim text v))
  unfolding feature_count features
  features_apart e = rw e

  two_fit : begins text "{" (trim text v) & ends text (trim text v) CLOSING-BRACE ≡ true → (trim text v).start + 2 ≤ (trim text v).end
  unfolding begins ends
  two_fit e =
      let q = trim text v in
      let t = both (begins text "{" q) (ends text q CLOSING-BRACE) e in
      end_fits text q true (sym t.0 ∙ begins_as "{" (bytes text q)) true (sym t.1) refl (trim_in text v i) refl

  -- a feature set has no more items than bytes
  pub features_fit : v.start + feature_count text v ≤ v.end
  unfolding inner
  features_fit = go (begins text "{" q & ends text q CLOSING-BRACE) refl
    where
      q : Span
      q = trim text v

      j : In text q
      j = trim_in text v i

      go : (b : Bool) → begins text "{" q & ends text q CLOSING-BRACE ≡ b → v.start + feature_count text v ≤ v.end
      go true e =
          let h = two_fit e in
          let within : In text (span (q.start + 1) (q.end - 1)) = record { forward = omega arith; inside = omega (arith, j.inside) } in
          omega (arith, features_braced e, filled_fit text (span (q.start + 1) (q.end - 1)) within, h, trim_start text v i, trim_stop text v i)
      go false e = omega (arith, features_apart e, words_fit text q j, j.forward, trim_start text v i, trim_stop text v i)

pub features_counted_fit : (text : List ℕ) (v : Span) (n : ℕ) → In text v → n ≡ feature_count text v → v.start + n ≤ v.end
features_counted_fit text v n i e = rw (← e) at (features_fit text v i)

-- ---- the items on an opening line

module _ (text : List ℕ) (args : Span) where
  -- those of the path set that stands there
  items_at : Option Span → ℕ
  items_at None = 0
  items_at (Some p) = set_count text p

  by_op : (op : Op) → items_at (set_on text (form_of op).syntax args) ≡ inline_items text (form_of op).shape args
  unfolding items_at set_on form_of inline_items set_count
  by_op IsValidPath = refl
  by_op QueryReferrers = refl
  by_op AddToStore = refl
  by_op AddTextToStore = refl
  by_op BuildPaths = refl
  by_op EnsurePath = refl
  by_op AddTempRoot = refl
  by_op AddIndirectRoot = refl
  by_op SyncWithGC = refl
  by_op FindRoots = refl
  by_op QueryDeriver = refl
  by_op SetOptions = refl
  by_op CollectGarbage = refl
  by_op QuerySubstitutablePathInfo = refl
  by_op QueryDerivationOutputs = refl
  by_op QueryAllValidPaths = refl
  by_op QueryPathInfo = refl
  by_op QueryDerivationOutputNames = refl
  by_op QueryPathFromHashPart = refl
  by_op QuerySubstitutablePathInfos = refl
  by_op QueryValidPaths = refl
  by_op QuerySubstitutablePaths = refl
  by_op QueryValidDerivers = refl
  by_op OptimiseStore = refl
  by_op VerifyStore = refl
  by_op BuildDerivation = refl
  by_op AddSignatures = refl
  by_op NarFromPath = refl
  by_op AddToStoreNar = refl
  by_op QueryMissing = refl
  by_op QueryDerivationOutputMap = refl
  by_op RegisterDrvOutput = refl
  by_op QueryRealisation = refl
  by_op AddMultipleToStore = refl
  by_op AddBuildLog = refl
  by_op BuildPathsWithResults = refl
  by_op AddPermRoot = refl

  -- what stands behind the first blank
  module _ (i : In text args) where
    uncut_after : position BLANK (bytes text args) ≡ None → span (args.start + (args.end - args.start)) args.end ≡ (cut_or text BLANK args).after
    uncut_after e = ap (λ (c : Cut). c.after) (all_before text BLANK args (uncut text BLANK args None (sym e) refl) i (span (args.start + (args.end - args.start)) args.end) refl)

    cut_after : (n : ℕ) → position BLANK (bytes text args) ≡ Some n → span (args.start + (n + 1)) args.end ≡ (cut_or text BLANK args).after
    cut_after n e =
        let before = span args.start (args.start + n) in
        let after = span (args.start + (n + 1)) args.end in
        ap (λ (c : Cut). c.after) (parted text BLANK args (cut_into before after) (cut_there text BLANK args (Some n) (sym e) n refl before after refl refl))

    after_start : args.start ≤ (cut_or text BLANK args).after.start
    after_start = go (position BLANK (bytes text args)) refl
      where
        go : (o : Option ℕ) → position BLANK (bytes text args) ≡ o → args.start ≤ (cut_or text BLANK args).after.start
        go None e = omega (arith, ap (λ (q : Span). q.start) (uncut_after e), i.forward)
        go (Some n) e = omega (arith, ap (λ (q : Span). q.start) (cut_after n e))

    after_end : args.end ≡ (cut_or text BLANK args).after.end
    after_end = go (position BLANK (bytes text args)) refl
      where
        go : (o : Option ℕ) → position BLANK (bytes text args) ≡ o → args.end ≡ (cut_or text BLANK args).after.end
        go None e = ap (λ (q : Span). q.end) (uncut_after e)
        go (Some n) e = ap (λ (q : Span). q.end) (cut_after n e)

  -- a path set there has no more items than bytes
  set_on_fits : (x : Syntax) → In text args → args.start + items_at (set_on text x args) ≤ args.end
  unfolding set_on items_at
  set_on_fits ignored i = nothing_fits text args i
  set_on_fits one_text i = nothing_fits text args i
  set_on_fits one_set i = set-fits text args i
  set_on_fits path_then_set i = omega (arith, set-fits text (cut_or text BLANK args).after (cut_or_in text BLANK args i).1, after_start i, after_end i)
  set_on_fits path_then_text i = nothing_fits text args i

  module _ (op : Op) where
    -- an opening line has no more items than bytes behind its operation's name
    pub inline-fits : In text args → args.start + inline_items text (form_of op).shape args ≤ args.end
    inline-fits i = rw (← by_op op) (set_on_fits (form_of op).syntax i)

    pub inline_counted_fit : (n : ℕ) → In text args → n ≡ inline_items text (form_of op).shape args → args.start + n ≤ args.end
    inline_counted_fit n i e = rw (← e) at (inline-fits i)

    -- what `openings::set_on` has found
    pub inline-none : None ≡ set_on text (form_of op).syntax args → 0 ≡ inline_items text (form_of op).shape args
    unfolding items_at
    inline-none e = ap items_at e ∙ by_op op

    pub inline_some : (p : Span) (n : ℕ) → Some p ≡ set_on text (form_of op).syntax args → n ≡ set_count text p → n ≡ inline_items text (form_of op).shape args
    unfolding items_at
    inline_some p n e k = k ∙ ap items_at e ∙ by_op op

pub ruleset inline-counts = (inline_counted_fit, inline-none, inline_some)

-- ---- any count of a piece that fits the piece fits the text

pub fits-text : (text : List ℕ) (v : Span) (n : ℕ) → In text v → v.start + n ≤ v.end → n ≤ length text
fits-text text v n i h = omega (arith, i.inside)
