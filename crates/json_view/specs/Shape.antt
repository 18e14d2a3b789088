-- The words by which messages name what is wanted.
use Rattle.std.specs.Prelude.{ℕ, List, codes}
use Rattle.json_view.specs.declared.error.Shape.{Shape}
use Rattle.json_view.specs.declared.error.Shape.TheVariants as shape

abbrev pub word_of : Shape → List ℕ
word_of shape.Text = codes "text"
word_of shape.Texts = codes "texts"
word_of shape.Flag = codes "flag"
word_of shape.Whole = codes "whole"
word_of shape.Object = codes "object"
word_of shape.Choice = codes "choice"
