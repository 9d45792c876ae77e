-- The 37 operations go by their codes and by their names, both ways. What is said of each of them is one test over their list, which antt computes.
-- Assumes nothing.
use Prim.Native.Nat.{ℕ, ◌<◌}
use Prim.Native.Char.{code as sign}
use Prim.Native.String.{String, [] as []ˢ, ◌∷◌ as ◌∷ˢ◌}
use mathlib.Core.Path.{◌≡◌, refl, sym, ap, ◌∙◌}
use mathlib.Core.Bool.{Bool, true, false}
use mathlib.Core.List.{List, [], ◌∷◌}
use native.Mathlib.Omega.{arith}
use lib.Dec.{eqb, ltb}
use lib.ListN.{length}
use borrow.Author.Tests.{eqb-true, ltb-true}
use Rattle.std.specs.Prelude.{if◌then◌else◌, None, Option, Some}
use Rattle.text.specs.Base.{◌&◌}
use Rattle.text.specs.Literal.{spells}
use Rattle.text.proofs.LiteralLaws.{codes}
use Rattle.text.proofs.Scan.{both, never}
use Rattle.wire.specs.Operations.{operation, operations, first, named, coded}
use Rattle.wire.specs.declared.ops.Op.{Op}
use Rattle.wire.specs.declared.ops.Op.TheVariants.{IsValidPath, QueryReferrers, AddToStore, AddTextToStore, BuildPaths, EnsurePath, AddTempRoot, AddIndirectRoot, SyncWithGC, FindRoots, QueryDeriver, SetOptions, CollectGarbage, QuerySubstitutablePathInfo, QueryDerivationOutputs, QueryAllValidPaths, QueryPathInfo, QueryDerivationOutputNames, QueryPathFromHashPart, QuerySubstitutablePathInfos, QueryValidPaths, QuerySubstitutablePaths, QueryValidDerivers, OptimiseStore, VerifyStore, BuildDerivation, AddSignatures, NarFromPath, AddToStoreNar, QueryMissing, QueryDerivationOutputMap, RegisterDrvOutput, QueryRealisation, AddMultipleToStore, AddBuildLog, BuildPathsWithResults, AddPermRoot}

pub thirty_seven : length operations ≡ 37
thirty_seven = refl

-- ---- by code

pub coded-code : (o : Op) → coded (operation o).code ≡ Some o
unfolding coded first operation
coded-code IsValidPath = refl
coded-code QueryReferrers = refl
coded-code AddToStore = refl
coded-code AddTextToStore = refl
coded-code BuildPaths = refl
coded-code EnsurePath = refl
coded-code AddTempRoot = refl
coded-code AddIndirectRoot = refl
coded-code SyncWithGC = refl
coded-code FindRoots = refl
coded-code QueryDeriver = refl
coded-code SetOptions = refl
coded-code CollectGarbage = refl
coded-code QuerySubstitutablePathInfo = refl
coded-code QueryDerivationOutputs = refl
coded-code QueryAllValidPaths = refl
coded-code QueryPathInfo = refl
coded-code QueryDerivationOutputNames = refl
coded-code QueryPathFromHashPart = refl
coded-code QuerySubstitutablePathInfos = refl
coded-code QueryValidPaths = refl
coded-code QuerySubstitutablePaths = refl
coded-code QueryValidDerivers = refl
coded-code OptimiseStore = refl
coded-code VerifyStore = refl
coded-code BuildDerivation = refl
coded-code AddSignatures = refl
coded-code NarFromPath = refl
coded-code AddToStoreNar = refl
coded-code QueryMissing = refl
coded-code QueryDerivationOutputMap = refl
coded-code RegisterDrvOutput = refl
coded-code QueryRealisation = refl
coded-code AddMultipleToStore = refl
coded-code AddBuildLog = refl
coded-code BuildPathsWithResults = refl
coded-code AddPermRoot = refl

pub coded_as : (o : Op) (n k : ℕ) → n ≡ k → coded k ≡ Some o → Some o ≡ coded n
coded_as o n k e f = sym (ap coded e ∙ f)

-- ---- one test for all

-- all operations of a list pass a test
abbrev pub every : (Op → Bool) → List Op → Bool
every test [] = true
every test (o ∷ os) = test o & every test os

-- the first that passes a test passes it, and passes what all pass
pub passes : (test also : Op → Bool) (os : List Op) (o : Op) → first test os ≡ Some o → every also os ≡ true → (test o ≡ true) × (also o ≡ true)
unfolding first
passes test also [] o e t = let z : ◌≡◌ {A = ℕ} 0 1 = cc in absurd (omega arith)
passes test also (p ∷ os) o e t =
    let all = both (also p) (every also os) t in
    go (test p) refl e all.0 (λ f. passes test also os o f all.1)
  where
    go : (b : Bool) → test p ≡ b → (if b then Some p else first test os) ≡ Some o → also p ≡ true
        → (first test os ≡ Some o → (test o ≡ true) × (also o ≡ true)) → (test o ≡ true) × (also o ≡ true)
    go true b f a later = let q : p ≡ o = cc in (sym (ap test q) ∙ b, sym (ap also q) ∙ a)
    go false b f a later = later f

-- what all 37 pass, each passes: each is in the list, where its code finds it
pub each : (test : Op → Bool) → every test operations ≡ true → (o : Op) → test o ≡ true
unfolding coded
each test t o = (passes _ test operations o (coded-code o) t).1

-- codes go from 1 to 47
pub no_zero : (o : Op) → 0 < (operation o).code
unfolding operation
no_zero o = ltb-true 0 (operation o).code (each (λ p. ltb 0 (operation p).code) refl o)

pub few_codes : (o : Op) → (operation o).code < 48
unfolding operation
few_codes o = ltb-true (operation o).code 48 (each (λ p. ltb (operation p).code 48) refl o)

pub code-coded : (n : ℕ) (o : Op) → coded n ≡ Some o → n ≡ (operation o).code
unfolding coded
code-coded n o e = eqb-true n (operation o).code (passes _ (λ p. true) operations o e refl).0

-- two operations do not share a code
pub same_code : (o p : Op) → (operation o).code ≡ (operation p).code → o ≡ p
same_code o p e = let a = coded-code o in let b = coded-code p in cc

-- where only o can be found, and is not, nothing is
pub none_found : (x : Option Op) (o : Op) → ((p : Op) → x ≡ Some p → p ≡ o) → (x ≡ Some o → ⊥) → None ≡ x
none_found None o only h = refl
none_found (Some p) o only h = absurd (h (ap Some (only p refl)))

-- ---- by name

-- the bytes that a word spells are its own
pub spelled : (w : String) (s : List ℕ) → spells w s ≡ true → s ≡ codes w
unfolding spells
spelled []ˢ [] e = refl
spelled []ˢ (x ∷ s) e = never (sym e)
spelled (c ∷ˢ w) [] e = never (sym e)
spelled (c ∷ˢ w) (x ∷ s) e = go (eqb (sign c) x) refl e (spelled w s)
  where
    go : (b : Bool) → eqb (sign c) x ≡ b → (if b then spells w s else false) ≡ true → (spells w s ≡ true → s ≡ codes w)
        → x ∷ s ≡ codes (c ∷ˢ w)
    go true b f later = let q : x ≡ sign c = sym (eqb-true (sign c) x b) in let r = later f in cc
    go false b f later = never (sym f)

-- from bytes to an operation and back
pub named_spelled : (s : List ℕ) (o : Op) → named s ≡ Some o → spells (operation o).name s ≡ true
unfolding named
named_spelled s o e = (passes _ (λ p. true) operations o e refl).0

pub name-named : (s : List ℕ) (o : Op) → named s ≡ Some o → s ≡ codes (operation o).name
name-named s o e = spelled (operation o).name s (named_spelled s o e)

-- the code of what was found, or 0
abbrev pub code_of : Option Op → ℕ
code_of None = 0
code_of (Some o) = (operation o).code

pub found : (x : Option Op) (o : Op) → eqb (code_of x) (operation o).code ≡ true → x ≡ Some o
found None o e = absurd (omega (arith, no_zero o, eqb-true 0 (operation o).code e))
found (Some p) o e = ap Some (same_code p o (eqb-true (operation p).code (operation o).code e))

-- and from an operation to its name and back: no earlier one has it
pub named-name : (o : Op) → named (codes (operation o).name) ≡ Some o
unfolding named first spells operation
named-name o = found _ o (each (λ p. eqb (code_of (named (codes (operation p).name))) (operation p).code) refl o)
