-- Worked examples of numbers, hex and unquoting, by computation: P1, P2 and P3 of document 01, and what is easily misread. Assumes nothing.
use Rattle.std.specs.Prelude.{None, Some}
use Prim.Native.Nat.{◌^◌}
use mathlib.Core.Path.{◌≡◌, refl}
use mathlib.Core.List.{[], ◌∷◌}
use lib.IntN.{pos, negsuc}
use Rattle.text.specs.Base.{within}
use Rattle.text.specs.Literal.{utf8}
use Rattle.values.specs.Numbers.{all_digits, decimal_from, digits, number, minus, signed}
use Rattle.values.specs.Hex.{without, without_blanks, character_starts, hex_value, hex_byte, hex_pairs, hex_decoded}
use Rattle.values.specs.Unquote.{quoted, between, replaced, replaced_in_order, unescaped, unquoted}

pub examples :
    -- P1, P2, P3
    (unquoted (utf8 "\"a\\\\nb\"") ≡ utf8 "a\\\nb")
    × (hex_decoded (utf8 "+a1\"") ≡ 0x0A ∷ [])
    × (hex_decoded (utf8 "zz0F\"") ≡ 0x0F ∷ [])
    -- unsigned: leading zeros, signs, no digit, other bytes
    × (number (2 ^ 64) (utf8 "000000000000000000000000000000001") ≡ Some 1)
    × (number (2 ^ 64) (utf8 "+3") ≡ Some 3)
    × (number (2 ^ 64) (utf8 "+") ≡ None)
    × (number (2 ^ 64) [] ≡ None)
    × (number (2 ^ 64) (utf8 "++1") ≡ None)
    × (number (2 ^ 64) (utf8 "-0") ≡ None)
    × (number (2 ^ 64) (utf8 "+-1") ≡ None)
    × (number (2 ^ 64) (utf8 " 5") ≡ None)
    × (number (2 ^ 64) (utf8 "1:") ≡ None)
    -- limits: the last number and the next
    × (number (2 ^ 8) (utf8 "255") ≡ Some 255)
    × (number (2 ^ 8) (utf8 "256") ≡ None)
    × (number (2 ^ 16) (utf8 "65535") ≡ Some 65535)
    × (number (2 ^ 16) (utf8 "65536") ≡ None)
    × (number (2 ^ 64) (utf8 "18446744073709551615") ≡ Some 18446744073709551615)
    × (number (2 ^ 64) (utf8 "18446744073709551616") ≡ None)
    × (signed (utf8 "9223372036854775807") ≡ Some (pos 9223372036854775807))
    × (signed (utf8 "9223372036854775808") ≡ None)
    × (signed (utf8 "-9223372036854775808") ≡ Some (negsuc 9223372036854775807))
    × (signed (utf8 "-9223372036854775809") ≡ None)
    -- signed: signs and no digit
    × (signed (utf8 "-1") ≡ Some (negsuc 0))
    × (signed (utf8 "+05") ≡ Some (pos 5))
    × (signed (utf8 "-0") ≡ Some (pos 0))
    × (signed (utf8 "-") ≡ None)
    × (signed [] ≡ None)
    × (signed (utf8 "-+1") ≡ None)
    -- hex: digits and both kinds of letters, and the bytes beside them
    × (hex_decoded (utf8 "0123456789abcdefABCDEF") ≡ 0x01 ∷ 0x23 ∷ 0x45 ∷ 0x67 ∷ 0x89 ∷ 0xAB ∷ 0xCD ∷ 0xEF ∷ 0xAB ∷ 0xCD ∷ 0xEF ∷ [])
    × (hex_decoded (utf8 "0/0:0@0G0`0g") ≡ [])
    -- characters, not bytes, go in pairs; only the space is removed
    × (hex_decoded (utf8 "0é12") ≡ 0x12 ∷ [])
    × (hex_decoded (utf8 "é€12") ≡ 0x12 ∷ [])
    × (hex_decoded (0x80 ∷ 0x31 ∷ 0xBF ∷ 0x32 ∷ []) ≡ 0x12 ∷ [])
    × (hex_decoded (utf8 "0 1") ≡ 0x01 ∷ [])
    × (hex_decoded (utf8 "0\t1") ≡ [])
    -- `+` in front alone counts
    × (hex_decoded (utf8 "-01") ≡ [])
    × (hex_decoded (utf8 "a+0") ≡ [])
    × (hex_decoded (utf8 "+ 7") ≡ 0x07 ∷ [])
    -- quotes at the end and inside
    × (hex_decoded (utf8 "ab\"\"") ≡ 0xAB ∷ [])
    × (hex_decoded (utf8 "ab") ≡ 0xAB ∷ [])
    × (hex_decoded [] ≡ [])
    × (hex_decoded (utf8 "\"\"") ≡ [])
    × (hex_decoded (utf8 "ab\"cd\"") ≡ 0xAB ∷ [])
    -- unquoting: backslashes before a letter and before a quote, and one that stands for nothing
    × (unquoted (utf8 "\"\\\\\\\\n\"") ≡ utf8 "\\\\\n")
    × (unquoted (utf8 "\"\\\\\"\"") ≡ utf8 "\\\"")
    × (unquoted (utf8 "\"\\q\\\"") ≡ utf8 "\\q\\")
    × (unquoted (utf8 "\"\\r\\t\\\"\\\\\"") ≡ utf8 "\r\t\"\\")
    -- no quotes at both ends
    × (unquoted (utf8 "\"") ≡ utf8 "\"")
    × (unquoted (utf8 "a\"") ≡ utf8 "a\"")
    × (unquoted (utf8 "\"a") ≡ utf8 "\"a")
    × (unquoted (utf8 "a\\n") ≡ utf8 "a\\n")
    × (unquoted [] ≡ [])
    × (unquoted (utf8 "\"\"") ≡ [])
    × (unquoted (utf8 "\"\"\"\"") ≡ utf8 "\"\"")
unfolding within utf8 all_digits decimal_from digits number minus signed without without_blanks character_starts hex_value hex_byte hex_pairs hex_decoded quoted between replaced replaced_in_order unescaped unquoted
examples =
    (refl, refl, refl, refl, refl, refl, refl, refl, refl, refl, refl, refl, refl, refl, refl, refl, refl, refl, refl, refl, refl, refl, refl, refl, refl, refl, refl, refl, refl, refl, refl, refl, refl, refl, refl, refl, refl, refl, refl, refl, refl, refl, refl, refl, refl, refl, refl, refl, refl, refl, refl, refl, refl, refl)
