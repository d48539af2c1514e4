-- The answer of `zonefile`: that a table which orders made is as a save asks, and what each call's answer makes of the text.
-- Assumes nothing.
use mathlib.Core.Path.{◌≡◌, refl, sym, ap, ◌∙◌}
use mathlib.Core.Bool.{Bool, true, false, beq, ◌||◌}
use mathlib.Core.List.{List, [], ◌∷◌, ◌++◌}
use mathlib.Core.Logic.{inl}
use Prim.Native.Nat.{ℕ, zero, suc, ◌-◌, ◌≤◌, ◌<◌}
use native.Mathlib.Decide.{dec_lt}
use native.Mathlib.Omega.{arith}
use borrow.Author.Tests.{le-leb, lt-leb, le-ltb, eq-eqb, ne_eqb}
use lib.Dec.{leb}
use lib.ListN.{length, drop}
use Rattle.std.proofs.Common.{Result, Ok, Err}
use Rattle.wire.proofs.RunLaws.{every_all}
use Rattle.permit.specs.Permission.{groups, P, start_table}
use Rattle.permit.specs.Orders.{Order, apply}
use Rattle.permit.specs.History.{Says}
use Rattle.permit.proofs.HistoryLaws.{history}
use Rattle.tables.specs.Refusals.{first_refusal}
use Rattle.tables.specs.Numbers.{number}
use Rattle.tables.specs.declared.refusal.Refusal.{Refusal}
use Rattle.tables.specs.declared.refusal.Refusal.TheVariants.{TooShort, IsVersion2, VersionUnknown, LengthsDisagree, OffsetDisagrees}
use Rattle.tables.proofs.AnswerLaws.{one_number}
use Rattle.tables.specs.Outcome.{refusal, answer, out, outcome}
use Rattle.requests.specs.Requests.{smp_source}
use Rattle.rack.specs.Rack.{rack_table}
use Rattle.lines.specs.Written.{Wrote}
use Rattle.imports.specs.Import.{Done, done, done_orders}
use Rattle.imports.specs.Steps.{Leaves}
use Rattle.imports.specs.declared.Imported.{Imported}
use Rattle.imports.specs.declared.Imported.TheVariants.{Stopped, Whole}
use Rattle.imports.specs.declared.cause.Cause.{Cause}
use Rattle.imports.specs.Causes as causes
use Rattle.imports.proofs.Accepted.{valid_lines}
use Rattle.exports.specs.Export.{sheet_text}
use Rattle.file_pairs.specs.Pairs.{loaded}
use Rattle.file_pairs.specs.Described.{fair, fair_row, described}
use Rattle.file_trailer.specs.Trailer.{pairs_in}
use Rattle.file_trailer.specs.Answers.{saved_as, version_number, loaded_as}
use Rattle.file_trailer.specs.declared.Version.{Version}
use Rattle.version_1.specs.Version1.{file_of, save_checks, save_out, load_checks, load_out}
use Rattle.version_1.proofs.Saves.{pairs_most, file_length}
use Rattle.orders_text.specs.OrdersText.{stop_text, too_long_text, given}
use Rattle.orders_text.proofs.AnswerLaws.{values, answered, answer_wrote}
use Rattle.warden_words.specs.Words.{same}
use Rattle.zonefile_text.specs.declared.Text.{Text}
use Rattle.zonefile_text.specs.declared.Text.TheVariants.{Output, Errors}
use Rattle.zonefile_text.specs.ZonefileText.{save_word, load_word, usage_text, long_file_text, pair_text, refusal_text, Said, output, errors, file_said, save_said, sheet_said, load_said, zone_said, SaidBy}

-- ---- a table that orders made is as a save asks
beq_same : (x : Bool) → beq x x ≡ true
beq_same true = refl
beq_same false = refl

fair_says : (w : ℕ) (t : List ℕ) (os : List Order) (a b : ℕ) → Says w t os → a < groups w → b < groups w → fair w t a b ≡ true
unfolding fair
fair_says w t os a b s ha hb = rw (← s.both_ways a b ha hb, beq_same (P w t a b)) (go (dec_lt a 2))
  where
    go : Dec (a < 2) → (leb 2 a || beq (P w t a b) (P w (start_table w) a b)) ≡ true
    go (yes l) = rw (lt-leb 2 a l, ← s.low a b ha hb (inl l)) (beq_same (P w t a b))
    go (no g) = rw (le-leb 2 a (omega arith))

says_described : (w : ℕ) (t : List ℕ) (os : List Order) → Says w t os → described w t ≡ true
unfolding described fair_row
says_described w t os s =
    every_all (fair_row w t) 0 (groups w)
    (λ a l h. every_all (fair w t a) a (groups w - a) (λ b m k. fair_says w t os a b s (omega arith) (omega arith)))

pub given-described : (sheet : List ℕ) (r : Result Imported Refusal) (p : List ℕ) → Leaves 16 (given sheet) (start_table 16) r p → described 16 p ≡ true
given-described sheet r p l =
    let v = valid_lines 16 (smp_source rack_table 0 0) (length sheet) (start_table 16) sheet in
    ap (described 16) l.applied
    ∙ says_described 16 (apply 16 (done_orders (given sheet)) (start_table 16)) (done_orders (given sheet)) (history 16 (done_orders (given sheet)) v)

-- ---- so the save is not refused
module _ (p t : List ℕ) (r : Result ℕ Refusal) (t₁ : List ℕ) (sized : length p ≡ 2048) (d : described 16 p ≡ true) (room : 88011 ≤ length t)
    (e : out (saved_as r) (t₁ ∷ []) ≡ save_out 16 p t) where
  save_clear : first_refusal (save_checks 16 p (length t)) ≡ 0
  unfolding first_refusal
  save_clear = rw (eq-eqb (length p) 2048 sized, le-ltb (length t) 16400 (omega arith), d)

  saved : out (saved_as r) (t₁ ∷ []) ≡ out (answer (length (file_of 16 p) ∷ [])) ((file_of 16 p ++ drop (length (file_of 16 p)) t) ∷ [])
  unfolding outcome
  saved = rw save_clear at e

  pub file_done : (n : ℕ) → r ≡ Ok n → Wrote t 0 (file_of 16 p) n t₁ × (n ≤ 88011)
  file_done n k =
      let l : length (file_of 16 p) ≤ 16014 = omega (arith, file_length 16 p, pairs_most 16 p (omega arith) (omega arith)) in
      let w = answer_wrote (file_of 16 p) t n t₁ (omega arith) (rw k at saved) in
      (w, omega (arith, w.ends))

  pub save_taken : (e : Refusal) → r ≡ Err e → ⊥
  save_taken n k = absurd (omega (arith, ap values (ap answered (rw k at saved))))

-- ---- a text that says an answer
module _ (s : Said) (bytes t : List ℕ) (end : ℕ) (t₁ : List ℕ) (w : Wrote t 0 bytes end t₁) where
  given_out : s ≡ output bytes → end ≤ 88011 → SaidBy s t (Output end) t₁
  given_out e l = rw e (record { which = refl; wrote = w; within = l })

  refused_in : s ≡ errors bytes → end ≤ 128 → SaidBy s t (Errors end) t₁
  refused_in e l = rw e (record { which = refl; wrote = w; within = omega arith })

-- ---- a sheet
module _ (p t : List ℕ) (end : ℕ) (t₁ : List ℕ) where
  whole_file : (d : Done) (n : ℕ) → Leaves 16 d (start_table 16) (Ok (Whole n)) p → file_said d ≡ output (file_of 16 p)
  unfolding file_said
  whole_file (done os zero) n l = ap (λ (q : List ℕ). output (file_of 16 q)) (sym l.applied)
  whole_file (done os (suc k)) n l = absurd (omega (arith, ap values l.answered))

  stopped-words : (d : Done) (n : ℕ) (cause : Cause) → Leaves 16 d (start_table 16) (Ok (Stopped n cause)) p
      → file_said d ≡ errors (stop_text n (causes.number cause))
  unfolding file_said
  stopped-words (done os zero) number cause l = absurd (omega (arith, ap values l.answered))
  stopped-words (done os (suc k)) number cause l = cc

  module _ (sheet : List ℕ) (r : Result Imported Refusal) (l : Leaves 16 (given sheet) (start_table 16) r p) where
    pub whole_said : (n : ℕ) → r ≡ Ok (Whole n) → Wrote t 0 (file_of 16 p) end t₁ × (end ≤ 88011)
        → SaidBy (file_said (given sheet)) t (Output end) t₁
    whole_said n e w = given_out (file_said (given sheet)) (file_of 16 p) t end t₁ w.0 (whole_file (given sheet) n (rw e at l)) w.1

    pub stop_said : (n : ℕ) (cause : Cause) → r ≡ Ok (Stopped n cause) → Wrote t 0 (stop_text n (causes.number cause)) end t₁ × (end ≤ 128)
        → SaidBy (file_said (given sheet)) t (Errors end) t₁
    stop_said n cause e w =
        refused_in (file_said (given sheet)) (stop_text n (causes.number cause)) t end t₁ w.0 (stopped-words (given sheet) n cause (rw e at l)) w.1

pub long_sheet_said : (sheet t : List ℕ) (end : ℕ) (t₁ : List ℕ) → 88011 < length sheet → Wrote t 0 too_long_text end t₁ × (end ≤ 128)
    → SaidBy (save_said sheet) t (Errors end) t₁
unfolding save_said
long_sheet_said sheet t end t₁ h w =
    refused_in (save_said sheet) too_long_text t end t₁ w.0 (rw (lt-leb (length sheet) 88011 h)) w.1

pub sheet_said_lem : (sheet t : List ℕ) (r : Text) (t₁ : List ℕ) → length sheet ≤ 88011 → SaidBy (file_said (given sheet)) t r t₁ → SaidBy (save_said sheet) t r t₁
unfolding save_said
sheet_said_lem sheet t r t₁ h s = rw (le-leb (length sheet) 88011 h) s

-- ---- why a file is refused, other than for the five that have words of their own
pub other_text : (e : Refusal) → (e ≡ TooShort → ⊥) → (e ≡ IsVersion2 → ⊥) → (e ≡ VersionUnknown → ⊥) → (e ≡ LengthsDisagree → ⊥)
    → (e ≡ OffsetDisagrees → ⊥) → pair_text ≡ refusal_text (number e)
unfolding refusal_text
other_text e d₁ d₂ d₃ d₄ d₅ =
    rw (
      ne_eqb (number e) 31 (λ q. d₁ (one_number e TooShort q)),
      ne_eqb (number e) 32 (λ q. d₂ (one_number e IsVersion2 q)),
      ne_eqb (number e) 33 (λ q. d₃ (one_number e VersionUnknown q)),
      ne_eqb (number e) 34 (λ q. d₄ (one_number e LengthsDisagree q)),
      ne_eqb (number e) 35 (λ q. d₅ (one_number e OffsetDisagrees q)),
    )

-- ---- a file
version_sheet : (k n : ℕ) (file old p : List ℕ) → out (answer (n ∷ [])) (p ∷ []) ≡ outcome k (1 ∷ []) (old ∷ []) (loaded 16 (pairs_in file) ∷ [])
    → sheet_said k file ≡ output (sheet_text 16 p)
unfolding outcome sheet_said
version_sheet zero n file old p e =
    let q : loaded 16 (pairs_in file) ≡ p = cc in
    ap (λ (u : List ℕ). output (sheet_text 16 u)) q
version_sheet (suc k) n file old p e = absurd (omega (arith, ap values (ap answered e)))

refused-words : (k n : ℕ) (file old p : List ℕ) → out (refusal n) (p ∷ []) ≡ outcome k (1 ∷ []) (old ∷ []) (loaded 16 (pairs_in file) ∷ [])
    → sheet_said k file ≡ errors (refusal_text n)
unfolding outcome sheet_said
refused-words zero n file old p e = absurd (omega (arith, ap values (ap answered e)))
refused-words (suc k) n file old p e =
    let q : suc k ≡ n = cc in
    ap (λ (m : ℕ). errors (refusal_text m)) q

module _ (file s p : List ℕ) (r : Result Version Refusal) (es : s ≡ start_table 16) (e : out (loaded_as r) (p ∷ []) ≡ load_out 16 s file) (t : List ℕ) (end : ℕ) (t₁ : List ℕ) where
  judged : out (loaded_as r) (p ∷ []) ≡ load_out 16 (start_table 16) file
  judged = rw es at e

  pub version_said : (v : Version) → r ≡ Ok v → Wrote t 0 (sheet_text 16 p) end t₁ × (end ≤ 88011)
      → SaidBy (sheet_said (first_refusal (load_checks 16 (start_table 16) file)) file) t (Output end) t₁
  version_said v k w =
      given_out (sheet_said (first_refusal (load_checks 16 (start_table 16) file)) file) (sheet_text 16 p) t end t₁ w.0
      (version_sheet (first_refusal (load_checks 16 (start_table 16) file)) (version_number v) file (start_table 16) p (rw k at judged)) w.1

  pub refusal_said : (e : Refusal) → r ≡ Err e → Wrote t 0 (refusal_text (number e)) end t₁ × (end ≤ 128)
      → SaidBy (sheet_said (first_refusal (load_checks 16 (start_table 16) file)) file) t (Errors end) t₁
  refusal_said e k w =
      refused_in (sheet_said (first_refusal (load_checks 16 (start_table 16) file)) file) (refusal_text (number e)) t end t₁ w.0
      (refused-words (first_refusal (load_checks 16 (start_table 16) file)) (number e) file (start_table 16) p (rw k at judged)) w.1

pub long_file_said : (file t : List ℕ) (end : ℕ) (t₁ : List ℕ) → 16400 < length file → Wrote t 0 long_file_text end t₁ × (end ≤ 128)
    → SaidBy (load_said file) t (Errors end) t₁
unfolding load_said
long_file_said file t end t₁ h w =
    refused_in (load_said file) long_file_text t end t₁ w.0 (rw (lt-leb (length file) 16400 h)) w.1

pub file_said_lem : (file t : List ℕ) (r : Text) (t₁ : List ℕ) → length file ≤ 16400
    → SaidBy (sheet_said (first_refusal (load_checks 16 (start_table 16) file)) file) t r t₁ → SaidBy (load_said file) t r t₁
unfolding load_said
file_said_lem file t r t₁ h s = rw (le-leb (length file) 16400 h) s

-- ---- the word
module _ (word : List ℕ) (is : Bool) (e : is ≡ same word save_word) where
  pub way_save : is ≡ true → true ≡ (same word save_word || same word load_word)
  way_save h = rw (← e, h)

  pub way_load : (is₂ : Bool) → is ≡ false → is₂ ≡ same word load_word → is₂ ≡ (same word save_word || same word load_word)
  way_load is₂ h e₂ = rw (← e, h) e₂

  module _ (input t : List ℕ) (r : Text) (t₁ : List ℕ) where
    pub save_said_lem : is ≡ true → SaidBy (save_said input) t r t₁ → SaidBy (zone_said word input) t r t₁
    unfolding zone_said
    save_said_lem h s = rw (← e, h) s

    pub load_said_lem : (is₂ : Bool) → is ≡ false → is₂ ≡ same word load_word → is₂ ≡ true → SaidBy (load_said input) t r t₁ → SaidBy (zone_said word input) t r t₁
    unfolding zone_said
    load_said_lem is₂ h e₂ h₂ s = rw (← e, h, ← e₂, h₂) s

  pub usage_said : (input t : List ℕ) (end : ℕ) (t₁ : List ℕ) (is₂ : Bool) → is ≡ false → is₂ ≡ same word load_word → is₂ ≡ false
      → Wrote t 0 usage_text end t₁ × (end ≤ 128) → SaidBy (zone_said word input) t (Errors end) t₁
  unfolding zone_said
  usage_said input t end t₁ is₂ h e₂ h₂ w = refused_in (zone_said word input) usage_text t end t₁ w.0 (rw (← e, h, ← e₂, h₂)) w.1
