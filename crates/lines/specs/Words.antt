-- "Then, decimal but for the result's two hex digits: number from 1; S result, response bytes, phys told; O outcome (ND, BD, ZV, or FWD and
-- phy); B phys told; L alone for kinds 5 and 6; X and a refusal number. A cut-off last event, of any kind, prints number and T."
use Rattle.std.specs.Prelude.{cond, List, [], ◌∷◌, ◌++◌, ℕ, eqb, get_or}
use Rattle.tables.specs.Outcome.{Answer, refusal, answer}
use Rattle.lines.specs.Text.{space, decimal, hex}

-- the letters of the lines
abbrev pub S : ℕ
S = 83

abbrev pub O : ℕ
O = 79

abbrev pub B : ℕ
B = 66

abbrev pub L : ℕ
L = 76

abbrev pub X : ℕ
X = 88

abbrev pub K : ℕ
K = 75

abbrev pub T : ℕ
T = 84

-- "O outcome (ND, BD, ZV, or FWD and phy)"; the outcomes are 1 to 4
abbrev pub outcome_words : List ℕ → List ℕ
outcome_words vs =
    cond (eqb (get_or vs 0 0) 1) (O ∷ space ∷ 78 ∷ 68 ∷ [])
    (cond (eqb (get_or vs 0 0) 2) (O ∷ space ∷ 66 ∷ 68 ∷ [])
    (cond (eqb (get_or vs 0 0) 3) (O ∷ space ∷ 90 ∷ 86 ∷ [])
    (O ∷ space ∷ 70 ∷ 87 ∷ 68 ∷ space ∷ decimal (get_or vs 1 0))))

-- "S result, response bytes, phys told"
abbrev pub reply_words : List ℕ → List ℕ
reply_words vs = S ∷ space ∷ hex (get_or vs 0 0) ++ space ∷ decimal (get_or vs 1 0) ++ space ∷ decimal (get_or vs 2 0)

-- "B phys told"
abbrev pub told_words : List ℕ → List ℕ
told_words vs = B ∷ space ∷ decimal (get_or vs 0 0)

-- "L alone for kinds 5 and 6"
abbrev pub link_words : List ℕ → List ℕ
link_words vs = L ∷ []

-- "X and a refusal number"
abbrev pub words : (List ℕ → List ℕ) → Answer → List ℕ
words f (refusal n) = X ∷ space ∷ decimal n
words f (answer vs) = f vs

-- "The first line is fixed.": `rack 1`
abbrev pub first_line : List ℕ
first_line = 114 ∷ 97 ∷ 99 ∷ 107 ∷ space ∷ 49 ∷ 10 ∷ []
