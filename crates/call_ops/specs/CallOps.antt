-- The operation of a call. Assumes nothing.
use Rattle.wire.specs.declared.ops.Op.{Op}
use Rattle.wire.specs.declared.ops.Op.TheVariants as ops
use Rattle.script.specs.declared.records.OpCall.{OpCall}
use Rattle.script.specs.declared.records.OpCall.TheVariants as calls

-- written in it, or the only one of its kind
unfoldable pub op_of : OpCall → Op
op_of (calls.SinglePath op path) = op
op_of (calls.SingleString op value) = op
op_of (calls.PathSet op paths) = op
op_of (calls.PathSetFlag op paths substitute) = op
op_of (calls.PathSetMode op paths mode) = op
op_of (calls.NoArgs op) = op
op_of (calls.SetOptions options) = ops.SetOptions
op_of (calls.CollectGarbage action paths ignore-liveness max-freed) = ops.CollectGarbage
op_of (calls.VerifyStore check-contents repair) = ops.VerifyStore
op_of (calls.AddPermRoot path gc-root) = ops.AddPermRoot
op_of (calls.AddSignatures path sigs) = ops.AddSignatures
op_of (calls.AddTextToStore suffix text refs) = ops.AddTextToStore
op_of (calls.AddToStore name cam_str refs repair contents) = ops.AddToStore
op_of (calls.AddMultipleToStore repair dont-check-sigs contents) = ops.AddMultipleToStore
op_of (calls.AddBuildLog path contents) = ops.AddBuildLog
op_of (calls.RegisterDrvOutput value) = ops.RegisterDrvOutput
op_of (calls.QueryRealisation value) = ops.QueryRealisation
op_of (calls.QuerySubstitutablePathInfo path) = ops.QuerySubstitutablePathInfo
op_of (calls.QuerySubstitutablePathInfos paths) = ops.QuerySubstitutablePathInfos
op_of (calls.RawBytes op bytes) = op
