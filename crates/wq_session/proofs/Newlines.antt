-- Lines, which end with a newline.
use Rattle.std.proofs.Common.{◌≡◌, ℕ, ◌-◌, List, ◌++◌, length, take, codes, sym, ap, subst, ◌∙◌, arith, length-append}
use Rattle.std.proofs.Math.Seq.{take-append_seam}
use Rattle.wq_session.specs.Line.{IsLine, line_text}

-- the text before the newline that was put to it
pub text_before : (text : List ℕ) → line_text (text ++ codes "\n") ≡ text
text_before text =
    let count : length (text ++ codes "\n") - 1 ≡ length text = omega (arith, length-append text (codes "\n")) in
    ap (λ n. take n (text ++ codes "\n")) count ∙ take-append_seam text (codes "\n")

-- a text with a newline is a line
pub is_line : (text : List ℕ) → IsLine (text ++ codes "\n")
is_line text = ap (λ t. t ++ codes "\n") (sym (text_before text))

-- a line that is kept for a text has that text
pub kept_text : (text line : List ℕ) → line ≡ text ++ codes "\n" → line_text line ≡ text
kept_text text line is = ap line_text is ∙ text_before text

-- and is a line
pub kept_line : (text line : List ℕ) → line ≡ text ++ codes "\n" → IsLine line
kept_line text line is = subst IsLine (sym is) (is_line text)
