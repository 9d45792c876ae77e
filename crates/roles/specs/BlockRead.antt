-- What matters of the value of a key for its line. Assumes nothing.
use Rattle.script.specs.Operations.{Kind, a_number, a_flag, a_quoted, a_set, some_data, a_list, a_hex, a_version, a_feature_set, a_text}
use Rattle.roles.specs.declared.argument_steps.ValueKind.{ValueKind}
use Rattle.roles.specs.declared.argument_steps.ValueKind.TheVariants.{Set, Data, Overrides, Other}

unfoldable pub kind_of : Kind → ValueKind
kind_of a_number = Other
kind_of a_flag = Other
kind_of a_quoted = Other
kind_of a_set = Set
kind_of some_data = Data
kind_of a_list = Overrides
kind_of a_hex = Other
kind_of a_version = Other
kind_of a_feature_set = Other
kind_of a_text = Other
