-- The reading of a whole text, as the code of Read needs it. Assumes nothing.
use Rattle.std.specs.Prelude.{ℕ, List}
use Rattle.text.specs.Lines.{lines}
use Rattle.script.specs.Values.{plain_rules}
use Rattle.script.specs.Roles.{roles}
use Rattle.script.specs.Contents.{contents}
use Rattle.script.specs.Layout.{Reading, laid_script}

-- the reading of a text that is not refused
unfoldable pub reading_of : (text : List ℕ) → Reading
reading_of text = laid_script (contents plain_rules text (roles plain_rules text (lines text)))
