-- The worked examples of versions and operations, by computation. Assumes nothing.
use Rattle.std.specs.Prelude.{None, Some}
use mathlib.Core.Path.{◌≡◌, refl}
use Rattle.text.specs.Base.{within}
use Rattle.text.specs.Literal.{spells}
use Rattle.values.specs.Numbers.{all_digits, decimal_from, digits, number}
use Rattle.text.specs.Parts.{split_from, split}
use Rattle.text.proofs.LiteralLaws.{codes}
use Rattle.wire.specs.Operations.{operation, first, named, coded}
use Rattle.version.specs.Version.{versioned, default_version, of_numbers, of_parts, version}
use Rattle.wire.specs.declared.ops.Op.TheVariants.{IsValidPath, QuerySubstitutablePathInfo, QuerySubstitutablePathInfos, AddToStore, AddToStoreNar, SyncWithGC, AddPermRoot}

examples :
    (version (codes "1.38") ≡ Some default_version)
    × (version (codes "+1.+5") ≡ Some (versioned 1 5))
    × (version (codes "65535.255") ≡ Some (versioned 65535 255))
    × (version (codes "001.007") ≡ Some (versioned 1 7))
    × (version (codes "1.256") ≡ None)
    × (version (codes "65536.1") ≡ None)
    × (version (codes "1.38.1") ≡ None)
    × (version (codes "1 .3") ≡ None)
    × (version (codes "") ≡ None)
    × (version (codes "1") ≡ None)
    × (version (codes ".") ≡ None)
    × (version (codes "1.") ≡ None)
    × (version (codes ".38") ≡ None)
    × (version (codes "-1.3") ≡ None)
    × (named (codes "IsValidPath") ≡ Some IsValidPath)
    × (named (codes "AddToStore") ≡ Some AddToStore)
    × (named (codes "AddToStoreNar") ≡ Some AddToStoreNar)
    × (named (codes "QuerySubstitutablePathInfo") ≡ Some QuerySubstitutablePathInfo)
    × (named (codes "QuerySubstitutablePathInfos") ≡ Some QuerySubstitutablePathInfos)
    × (named (codes "syncwithgc") ≡ None)
    × (named (codes "SyncWithG") ≡ None)
    × (named (codes "SyncWithGC ") ≡ None)
    × (named (codes "") ≡ None)
    × (coded 1 ≡ Some IsValidPath)
    × (coded 13 ≡ Some SyncWithGC)
    × (coded 47 ≡ Some AddPermRoot)
    × (coded 0 ≡ None)
    × (coded 3 ≡ None)
    × (coded 48 ≡ None)
unfolding within spells all_digits decimal_from digits number split_from split operation first named coded of_numbers of_parts version
examples = (
  refl,
  refl,
  refl,
  refl,
  refl,
  refl,
  refl,
  refl,
  refl,
  refl,
  refl,
  refl,
  refl,
  refl,
  refl,
  refl,
  refl,
  refl,
  refl,
  refl,
  refl,
  refl,
  refl,
  refl,
  refl,
  refl,
  refl,
  refl,
  refl,
)
