-- `wire::ops::Op::letters` meets its contract: antt computes the letters of each name. Assumes nothing.
use mathlib.Core.Path.{refl}
use Rattle.wire.specs.Operations.{operation}
use Rattle.wire.proofs.ops.Op.letters.Goals as goal

pub returns-in-IsValidPath : goal.returns-in-IsValidPath
unfolding operation
returns-in-IsValidPath c = rw c.in-IsValidPath.is refl

pub returns-in-QueryReferrers : goal.returns-in-QueryReferrers
unfolding operation
returns-in-QueryReferrers c = rw c.in-QueryReferrers.is refl

pub returns-in-AddToStore : goal.returns-in-AddToStore
unfolding operation
returns-in-AddToStore c = rw c.in-AddToStore.is refl

pub returns-in-AddTextToStore : goal.returns-in-AddTextToStore
unfolding operation
returns-in-AddTextToStore c = rw c.in-AddTextToStore.is refl

pub returns-in-BuildPaths : goal.returns-in-BuildPaths
unfolding operation
returns-in-BuildPaths c = rw c.in-BuildPaths.is refl

pub returns-in-EnsurePath : goal.returns-in-EnsurePath
unfolding operation
returns-in-EnsurePath c = rw c.in-EnsurePath.is refl

pub returns-in-AddTempRoot : goal.returns-in-AddTempRoot
unfolding operation
returns-in-AddTempRoot c = rw c.in-AddTempRoot.is refl

pub returns-in-AddIndirectRoot : goal.returns-in-AddIndirectRoot
unfolding operation
returns-in-AddIndirectRoot c = rw c.in-AddIndirectRoot.is refl

pub returns-in-SyncWithGC : goal.returns-in-SyncWithGC
unfolding operation
returns-in-SyncWithGC c = rw c.in-SyncWithGC.is refl

pub returns-in-FindRoots : goal.returns-in-FindRoots
unfolding operation
returns-in-FindRoots c = rw c.in-FindRoots.is refl

pub returns-in-QueryDeriver : goal.returns-in-QueryDeriver
unfolding operation
returns-in-QueryDeriver c = rw c.in-QueryDeriver.is refl

pub returns-in-SetOptions : goal.returns-in-SetOptions
unfolding operation
returns-in-SetOptions c = rw c.in-SetOptions.is refl

pub returns-in-CollectGarbage : goal.returns-in-CollectGarbage
unfolding operation
returns-in-CollectGarbage c = rw c.in-CollectGarbage.is refl

pub returns-in-QuerySubstitutablePathInfo : goal.returns-in-QuerySubstitutablePathInfo
unfolding operation
returns-in-QuerySubstitutablePathInfo c = rw c.in-QuerySubstitutablePathInfo.is refl

pub returns-in-QueryDerivationOutputs : goal.returns-in-QueryDerivationOutputs
unfolding operation
returns-in-QueryDerivationOutputs c = rw c.in-QueryDerivationOutputs.is refl

pub returns-in-QueryAllValidPaths : goal.returns-in-QueryAllValidPaths
unfolding operation
returns-in-QueryAllValidPaths c = rw c.in-QueryAllValidPaths.is refl

pub returns-in-QueryPathInfo : goal.returns-in-QueryPathInfo
unfolding operation
returns-in-QueryPathInfo c = rw c.in-QueryPathInfo.is refl

pub returns-in-QueryDerivationOutputNames : goal.returns-in-QueryDerivationOutputNames
unfolding operation
returns-in-QueryDerivationOutputNames c = rw c.in-QueryDerivationOutputNames.is refl

pub returns-in-QueryPathFromHashPart : goal.returns-in-QueryPathFromHashPart
unfolding operation
returns-in-QueryPathFromHashPart c = rw c.in-QueryPathFromHashPart.is refl

pub returns-in-QuerySubstitutablePathInfos : goal.returns-in-QuerySubstitutablePathInfos
unfolding operation
returns-in-QuerySubstitutablePathInfos c = rw c.in-QuerySubstitutablePathInfos.is refl

pub returns-in-QueryValidPaths : goal.returns-in-QueryValidPaths
unfolding operation
returns-in-QueryValidPaths c = rw c.in-QueryValidPaths.is refl

pub returns-in-QuerySubstitutablePaths : goal.returns-in-QuerySubstitutablePaths
unfolding operation
returns-in-QuerySubstitutablePaths c = rw c.in-QuerySubstitutablePaths.is refl

pub returns-in-QueryValidDerivers : goal.returns-in-QueryValidDerivers
unfolding operation
returns-in-QueryValidDerivers c = rw c.in-QueryValidDerivers.is refl

pub returns-in-OptimiseStore : goal.returns-in-OptimiseStore
unfolding operation
returns-in-OptimiseStore c = rw c.in-OptimiseStore.is refl

pub returns-in-VerifyStore : goal.returns-in-VerifyStore
unfolding operation
returns-in-VerifyStore c = rw c.in-VerifyStore.is refl

pub returns-in-BuildDerivation : goal.returns-in-BuildDerivation
unfolding operation
returns-in-BuildDerivation c = rw c.in-BuildDerivation.is refl

pub returns-in-AddSignatures : goal.returns-in-AddSignatures
unfolding operation
returns-in-AddSignatures c = rw c.in-AddSignatures.is refl

pub returns-in-NarFromPath : goal.returns-in-NarFromPath
unfolding operation
returns-in-NarFromPath c = rw c.in-NarFromPath.is refl

pub returns-in-AddToStoreNar : goal.returns-in-AddToStoreNar
unfolding operation
returns-in-AddToStoreNar c = rw c.in-AddToStoreNar.is refl

pub returns-in-QueryMissing : goal.returns-in-QueryMissing
unfolding operation
returns-in-QueryMissing c = rw c.in-QueryMissing.is refl

pub returns-in-QueryDerivationOutputMap : goal.returns-in-QueryDerivationOutputMap
unfolding operation
returns-in-QueryDerivationOutputMap c = rw c.in-QueryDerivationOutputMap.is refl

pub returns-in-RegisterDrvOutput : goal.returns-in-RegisterDrvOutput
unfolding operation
returns-in-RegisterDrvOutput c = rw c.in-RegisterDrvOutput.is refl

pub returns-in-QueryRealisation : goal.returns-in-QueryRealisation
unfolding operation
returns-in-QueryRealisation c = rw c.in-QueryRealisation.is refl

pub returns-in-AddMultipleToStore : goal.returns-in-AddMultipleToStore
unfolding operation
returns-in-AddMultipleToStore c = rw c.in-AddMultipleToStore.is refl

pub returns-in-AddBuildLog : goal.returns-in-AddBuildLog
unfolding operation
returns-in-AddBuildLog c = rw c.in-AddBuildLog.is refl

pub returns-in-BuildPathsWithResults : goal.returns-in-BuildPathsWithResults
unfolding operation
returns-in-BuildPathsWithResults c = rw c.in-BuildPathsWithResults.is refl

pub returns-in-AddPermRoot : goal.returns-in-AddPermRoot
unfolding operation
returns-in-AddPermRoot c = rw c.in-AddPermRoot.is refl
