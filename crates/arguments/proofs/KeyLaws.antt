-- Laws of keys: each table's rule, from one test that antt computes over all keys. Assumes nothing.
use Prim.Native.Nat.{ℕ, zero, suc, ◌+◌, ◌-◌, ◌<◌}
use mathlib.Core.Path.{◌≡◌, refl, sym, ap, ◌∙◌}
use mathlib.Core.Bool.{Bool, true, false}
use mathlib.Core.List.{List, [], ◌∷◌, ◌++◌}
use native.Mathlib.Omega.{arith}
use native.Mathlib.Nat.{mod-lt, not-suc-le-zero}
use lib.Dec.{eqb, leb, ltb}
use lib.ListN.{get_or, length}
use borrow.Author.Tests.{eqb-true, eqb-false, eq-eqb, leb-true, ltb-true}
use Rattle.std.specs.Prelude.{if◌then◌else◌, None, Option, Some}
use Rattle.text.specs.Base.{◌&◌, part}
use Rattle.text.specs.Literal.{spells}
use Rattle.text.specs.Parts.{same_bytes}
use Rattle.text.proofs.LiteralLaws.{codes, spells_as}
use Rattle.text.proofs.Scan.{both, never}
use Rattle.script.specs.Operations.{key_row, same_key, keys_of, key_in}
use Rattle.script.specs.declared.roles.Takes.{Takes}
use Rattle.script.specs.declared.roles.Takes.TheVariants.{NoLines, Options, Garbage, Verify, Texts, Store, Multiple, FirstData, FirstRaw}
use Rattle.script.specs.declared.roles.Key.{Key}
use Rattle.arguments.specs.KeyTables.{argument_keys, key_at, name_at, letters, Spelt, Starts, name_sum, Meant, Hints}

-- ---- one test for all

abbrev every : {A : Type 0} → (A → Bool) → List A → Bool
every test [] = true
every test (x ∷ xs) = test x & every test xs

every_at : {A : Type 0} (test : A → Bool) (xs : List A) (d : A) → every test xs ≡ true → (i : ℕ) → i < length xs → test (get_or xs i d) ≡ true
every_at test [] d t i h = absurd (not-suc-le-zero h)
every_at test (x ∷ xs) d t zero h = (both (test x) (every test xs) t).0
every_at test (x ∷ xs) d t (suc i) h = every_at test xs d (both (test x) (every test xs) t).1 i (omega arith)

-- whatever lines an operation takes
abbrev everywhere : List Takes
everywhere = NoLines ∷ Options ∷ Garbage ∷ Verify ∷ Texts ∷ Store ∷ Multiple ∷ FirstData ∷ FirstRaw ∷ []

anywhere : (test : Takes → Bool) → every test everywhere ≡ true → (takes : Takes) → test takes ≡ true
anywhere test t NoLines = every_at test everywhere NoLines t 0 (omega arith)
anywhere test t Options = every_at test everywhere NoLines t 1 (omega arith)
anywhere test t Garbage = every_at test everywhere NoLines t 2 (omega arith)
anywhere test t Verify = every_at test everywhere NoLines t 3 (omega arith)
anywhere test t Texts = every_at test everywhere NoLines t 4 (omega arith)
anywhere test t Store = every_at test everywhere NoLines t 5 (omega arith)
anywhere test t Multiple = every_at test everywhere NoLines t 6 (omega arith)
anywhere test t FirstData = every_at test everywhere NoLines t 7 (omega arith)
anywhere test t FirstRaw = every_at test everywhere NoLines t 8 (omega arith)

-- at every place below n
abbrev pub below : (ℕ → Bool) → ℕ → Bool
below test zero = true
below test (suc n) = test n & below test n

each_below : (test : ℕ → Bool) (n : ℕ) → below test n ≡ true → (i : ℕ) → i < n → test i ≡ true
each_below test zero t i h = absurd (not-suc-le-zero h)
each_below test (suc n) t i h = let p = both (test n) (below test n) t in go (eqb i n) refl p.0 (each_below test n p.1 i)
  where
    go : (b : Bool) → eqb i n ≡ b → test n ≡ true → (i < n → test i ≡ true) → test i ≡ true
    go true e here later = ap test (eqb-true i n e) ∙ here
    go false e here later = later (let z = eqb-false i n e in omega arith)

-- ---- the key that is found

-- the same bytes are equal
equal : (a b : List ℕ) → same_bytes a b ≡ true → a ≡ b
unfolding same_bytes
equal [] [] e = refl
equal [] (y ∷ b) e = never (sym e)
equal (x ∷ a) [] e = never (sym e)
equal (x ∷ a) (y ∷ b) e = let p = both (eqb x y) (same_bytes a b) e in let q = eqb-true x y p.0 in let r = equal a b p.1 in cc

-- a key that is found has the name, and passes what all pass
found : (s : List ℕ) (also : Key → Bool) (ks : List Key) (k : Key) → key_in ks s ≡ Some k → every also ks ≡ true → (s ≡ codes (key_row k).name) × (also k ≡ true)
unfolding key_in
found s also [] k e t = let z : ◌≡◌ {A = ℕ} 0 1 = cc in absurd (omega arith)
found s also (j ∷ ks) k e t =
    let all = both (also j) (every also ks) t in
    go (spells (key_row j).name s) (sym (spells_as (key_row j).name s)) e all.0 (λ f. found s also ks k f all.1)
  where
    go : (b : Bool) → same_bytes s (codes (key_row j).name) ≡ b → (if b then Some j else key_in ks s) ≡ Some k → also j ≡ true
        → (key_in ks s ≡ Some k → (s ≡ codes (key_row k).name) × (also k ≡ true)) → (s ≡ codes (key_row k).name) × (also k ≡ true)
    go true b f a later = let q : j ≡ k = cc in (equal s (codes (key_row j).name) b ∙ ap (λ (i : Key). codes (key_row i).name) q, sym (ap also q) ∙ a)
    go false b f a later = later f

-- ---- a number tells a key from all others

abbrev by_number : List Key
by_number = argument_keys ++ (Key.Protocol ∷ Key.Features ∷ Key.DaemonVersion ∷ Key.TrustStatus ∷ Key.ServerFeatures ∷ Key.Raw ∷ [])

number-key : (k : Key) → get_or by_number ((key_row k).number - 1) Key.Raw ≡ k
unfolding key_row
number-key Key.KeepFailed = refl
number-key Key.KeepGoing = refl
number-key Key.TryFallback = refl
number-key Key.Verbosity = refl
number-key Key.MaxBuildJobs = refl
number-key Key.MaxSilentTime = refl
number-key Key.UseBuildHook = refl
number-key Key.VerboseBuild = refl
number-key Key.LogType = refl
number-key Key.PrintBuildTrace = refl
number-key Key.BuildCores = refl
number-key Key.UseSubstitutes = refl
number-key Key.Overrides = refl
number-key Key.Action = refl
number-key Key.Paths = refl
number-key Key.IgnoreLiveness = refl
number-key Key.MaxFreed = refl
number-key Key.CheckContents = refl
number-key Key.Repair = refl
number-key Key.Suffix = refl
number-key Key.Text = refl
number-key Key.Refs = refl
number-key Key.Name = refl
number-key Key.CamStr = refl
number-key Key.Data = refl
number-key Key.DontCheckSigs = refl
number-key Key.Protocol = refl
number-key Key.Features = refl
number-key Key.DaemonVersion = refl
number-key Key.TrustStatus = refl
number-key Key.ServerFeatures = refl
number-key Key.Raw = refl

same_key_lem : (j k : Key) → same_key j k ≡ true → j ≡ k
unfolding same_key
same_key_lem j k e =
    let n = eqb-true (key_row j).number (key_row k).number e in
    sym (number-key j) ∙ ap (λ (i : ℕ). get_or by_number (i - 1) Key.Raw) n ∙ number-key k

abbrev finds : Key → Option Key → Bool
finds k None = false
finds k (Some j) = same_key j k

is_found : (k : Key) (x : Option Key) → finds k x ≡ true → Some k ≡ x
is_found k None t = never (sym t)
is_found k (Some j) t = ap Some (sym (same_key_lem j k t))

-- ---- the table of hints

module _ (table : List ℕ) (takes : Takes) where
  abbrev hint : List ℕ → ℕ
  hint s = get_or table (name_sum takes s) 0

  -- the hint of a name of the operation leads to that name
  unfoldable pub led : Key → Bool
  led k = same_bytes (codes (key_row k).name) (name_at (hint (codes (key_row k).name)))

  -- and a key that the hint of its name leads to is the operation's
  unfoldable pub own : ℕ → Bool
  own n = if eqb (hint (name_at n)) n then finds (key_at n) (key_in (keys_of takes) (name_at n)) else true

  unfoldable pub told : Bool
  told = every led (keys_of takes) & below own 26

  module _ (t : told ≡ true) (s : List ℕ) (small : hint s < 26) where
    tests : (every led (keys_of takes) ≡ true) × (below own 26 ≡ true)
    unfolding told
    tests = both (every led (keys_of takes)) (below own 26) t

    -- a key that is found has the name that is hinted
    led_to : (k : Key) → key_in (keys_of takes) s ≡ Some k → same_bytes s (name_at (hint s)) ≡ true
    unfolding led
    led_to k e = let p = found s led (keys_of takes) k e tests.0 in rw p.0 p.1

    -- a key that is hinted and has the name is found
    owned : s ≡ name_at (hint s) → Some (key_at (hint s)) ≡ key_in (keys_of takes) s
    unfolding own
    owned w =
        let o = each_below own 26 tests.1 (hint s) small in
        let same : hint (name_at (hint s)) ≡ hint s = ap hint (sym w) in
        is_found (key_at (hint s)) _ (rw (eq-eqb _ _ same) at o) ∙ ap (key_in (keys_of takes)) (sym w)

    only : (if same_bytes s (name_at (hint s)) then Some (key_at (hint s)) else None) ≡ key_in (keys_of takes) s
    only = go (same_bytes s (name_at (hint s))) refl
      where
        absent : (x : Option Key) → key_in (keys_of takes) s ≡ x → same_bytes s (name_at (hint s)) ≡ false → None ≡ x
        absent None e f = refl
        absent (Some k) e f = never (sym (led_to k e) ∙ f)

        go : (b : Bool) → same_bytes s (name_at (hint s)) ≡ b → (if b then Some (key_at (hint s)) else None) ≡ key_in (keys_of takes) s
        go true e = owned (equal s (name_at (hint s)) e)
        go false e = absent (key_in (keys_of takes) s) refl e

-- the test of the table, and what it says
unfoldable pub hinted : List ℕ → Bool
hinted table = every (told table) everywhere & below (λ i. ltb (get_or table i 0) 26) 36

pub hints_right : (table : List ℕ) → hinted table ≡ true → Hints table
unfolding hinted
hints_right table t = record { rule = λ takes s. meant takes s (small takes s) }
  where
    tests : (every (told table) everywhere ≡ true) × (below (λ i. ltb (get_or table i 0) 26) 36 ≡ true)
    tests = both (every (told table) everywhere) (below (λ i. ltb (get_or table i 0) 26) 36) t

    small : (takes : Takes) (s : List ℕ) → hint table takes s < 26
    small takes s = ltb-true _ 26 (each_below (λ i. ltb (get_or table i 0) 26) 36 tests.1 (name_sum takes s) (mod-lt _ (omega arith)))

    meant : (takes : Takes) (s : List ℕ) → hint table takes s < 26 → Meant takes s (hint table takes s)
    meant takes s h = record { small = h; only = only table takes (anywhere (told table) tests.0 takes) s h }

-- ---- the table of places

unfoldable pub spelt : (n start end : ℕ) → Bool
spelt n start end = leb start end & leb end 257 & same_bytes (part (letters argument_keys) start (end - start)) (name_at n)

is_spelt : (n start end : ℕ) → spelt n start end ≡ true → Spelt n start end
unfolding spelt
is_spelt n start end t =
    let a = both (leb start end) _ t in
    let b = both (leb end 257) _ a.1 in
    record { forward = leb-true start end a.0; inside = leb-true end 257 b.0; bytes = equal _ _ b.1 }

unfoldable pub placed : List ℕ → ℕ → Bool
placed table n = spelt n (get_or table n 0) (get_or table (n + 1) 0)

pub starts_right : (table : List ℕ) → below (placed table) 26 ≡ true → Starts table
unfolding placed
starts_right table t = record { rule = λ n h. is_spelt n _ _ (each_below (placed table) 26 t n h) }
