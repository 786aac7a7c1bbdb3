-- What the program prints: what is known of two rows, and why, as one line; or the refusal of the question (document 02, A6).
use Rattle.std.specs.Prelude.{ℕ, cond, List, ◌++◌}
use Rattle.term.specs.declared.Relation.{Relation}
use Rattle.term.specs.declared.Relation.TheVariants.{Unknown, Same, Apart}
use Rattle.term.specs.declared.Reason.{Reason}
use Rattle.term.specs.Reason.{known_by}
use Rattle.judge.specs.Verdict.{is_accepted}
use Rattle.simplify.specs.Answer.{modulus}
use Rattle.question.specs.Ask.{ask_verdict, ask_reason}
use Rattle.text.specs.Text.{ascii, decimal}
use Rattle.lines.specs.Lines.{refusal}
use Rattle.reasons.specs.Reasons.{reason_text}

unfoldable pub relation_text : Relation → List ℕ
relation_text Unknown = ascii "not known"
relation_text Same = ascii "same"
relation_text Apart = ascii "apart"

unfoldable pub rows_text : ℕ → ℕ → List ℕ
rows_text x y = ascii "rows " ++ decimal x ++ ascii " and " ++ decimal y

-- the line of rows x and y, of words below M: what is known of them is what is known by the reason, whose words are those of a list of `why`
unfoldable pub line : ℕ → ℕ → ℕ → Reason → List ℕ
line M x y why = rows_text x y ++ ascii ": " ++ relation_text (known_by why) ++ ascii ", " ++ reason_text M why ++ ascii "\n"

-- the bytes that the line takes at most, whatever the numbers
abbrev pub LONGEST : ℕ
LONGEST = 258

-- all that is printed of rows x and y of a table, with its kept result
unfoldable pub answer_text : List ℕ → List ℕ → ℕ → ℕ → List ℕ
answer_text t kept x y =
    cond (is_accepted (ask_verdict t kept x y)) (line (modulus t) x y (ask_reason t kept x y))
    (refusal (ask_verdict t kept x y).number (ask_verdict t kept x y).row)
