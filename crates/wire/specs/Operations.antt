-- Document 01, "Operation and version": 37 operations, codes 1 to 47 as listed in ops.rs, exact names. Assumes nothing.
use Rattle.std.specs.Prelude.{ℕ, Bool, List, [], ◌∷◌, eqb, if◌then◌else◌, None, Option, Some}
use Prim.Native.String.{String}
use Rattle.text.specs.Literal.{spells}
use Rattle.wire.specs.declared.ops.Op.{Op}
use Rattle.wire.specs.declared.ops.Op.TheVariants.{IsValidPath, QueryReferrers, AddToStore, AddTextToStore, BuildPaths, EnsurePath, AddTempRoot, AddIndirectRoot, SyncWithGC, FindRoots, QueryDeriver, SetOptions, CollectGarbage, QuerySubstitutablePathInfo, QueryDerivationOutputs, QueryAllValidPaths, QueryPathInfo, QueryDerivationOutputNames, QueryPathFromHashPart, QuerySubstitutablePathInfos, QueryValidPaths, QuerySubstitutablePaths, QueryValidDerivers, OptimiseStore, VerifyStore, BuildDerivation, AddSignatures, NarFromPath, AddToStoreNar, QueryMissing, QueryDerivationOutputMap, RegisterDrvOutput, QueryRealisation, AddMultipleToStore, AddBuildLog, BuildPathsWithResults, AddPermRoot}

-- ---- the 37 operations

pub record Row : Type 0 where
  pub name : String
  pub code : ℕ

abbrev pub row : String → ℕ → Row
row name code = record { name = name; code = code }

unfoldable pub operation : Op → Row
operation IsValidPath = row "IsValidPath" 1
operation QueryReferrers = row "QueryReferrers" 6
operation AddToStore = row "AddToStore" 7
operation AddTextToStore = row "AddTextToStore" 8
operation BuildPaths = row "BuildPaths" 9
operation EnsurePath = row "EnsurePath" 10
operation AddTempRoot = row "AddTempRoot" 11
operation AddIndirectRoot = row "AddIndirectRoot" 12
operation SyncWithGC = row "SyncWithGC" 13
operation FindRoots = row "FindRoots" 14
operation QueryDeriver = row "QueryDeriver" 18
operation SetOptions = row "SetOptions" 19
operation CollectGarbage = row "CollectGarbage" 20
operation QuerySubstitutablePathInfo = row "QuerySubstitutablePathInfo" 21
operation QueryDerivationOutputs = row "QueryDerivationOutputs" 22
operation QueryAllValidPaths = row "QueryAllValidPaths" 23
operation QueryPathInfo = row "QueryPathInfo" 26
operation QueryDerivationOutputNames = row "QueryDerivationOutputNames" 28
operation QueryPathFromHashPart = row "QueryPathFromHashPart" 29
operation QuerySubstitutablePathInfos = row "QuerySubstitutablePathInfos" 30
operation QueryValidPaths = row "QueryValidPaths" 31
operation QuerySubstitutablePaths = row "QuerySubstitutablePaths" 32
operation QueryValidDerivers = row "QueryValidDerivers" 33
operation OptimiseStore = row "OptimiseStore" 34
operation VerifyStore = row "VerifyStore" 35
operation BuildDerivation = row "BuildDerivation" 36
operation AddSignatures = row "AddSignatures" 37
operation NarFromPath = row "NarFromPath" 38
operation AddToStoreNar = row "AddToStoreNar" 39
operation QueryMissing = row "QueryMissing" 40
operation QueryDerivationOutputMap = row "QueryDerivationOutputMap" 41
operation RegisterDrvOutput = row "RegisterDrvOutput" 42
operation QueryRealisation = row "QueryRealisation" 43
operation AddMultipleToStore = row "AddMultipleToStore" 44
operation AddBuildLog = row "AddBuildLog" 45
operation BuildPathsWithResults = row "BuildPathsWithResults" 46
operation AddPermRoot = row "AddPermRoot" 47

-- all of them, by rising code
abbrev pub operations : List Op
operations =
    IsValidPath ∷ QueryReferrers ∷ AddToStore ∷ AddTextToStore ∷ BuildPaths ∷ EnsurePath ∷ AddTempRoot ∷ AddIndirectRoot ∷ SyncWithGC ∷ FindRoots
    ∷ QueryDeriver ∷ SetOptions ∷ CollectGarbage ∷ QuerySubstitutablePathInfo ∷ QueryDerivationOutputs ∷ QueryAllValidPaths ∷ QueryPathInfo
    ∷ QueryDerivationOutputNames ∷ QueryPathFromHashPart ∷ QuerySubstitutablePathInfos ∷ QueryValidPaths ∷ QuerySubstitutablePaths
    ∷ QueryValidDerivers ∷ OptimiseStore ∷ VerifyStore ∷ BuildDerivation ∷ AddSignatures ∷ NarFromPath ∷ AddToStoreNar ∷ QueryMissing
    ∷ QueryDerivationOutputMap ∷ RegisterDrvOutput ∷ QueryRealisation ∷ AddMultipleToStore ∷ AddBuildLog ∷ BuildPathsWithResults ∷ AddPermRoot ∷ []

-- ---- by name and by code

-- the first of a list that passes a test
unfoldable pub first : (Op → Bool) → List Op → Option Op
first test [] = None
first test (o ∷ os) = let later = first test os in if test o then Some o else later

-- the operation of that exact name
unfoldable pub named : List ℕ → Option Op
named s = first (λ o. spells (operation o).name s) operations

-- the operation of that code
unfoldable pub coded : ℕ → Option Op
coded n = first (λ o. eqb n (operation o).code) operations
