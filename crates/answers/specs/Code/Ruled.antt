-- Between functions: what a function gives whose rows may refuse, as a result.
use Rattle.std.specs.Prelude.{cond, ℕ, eqb, ◌≡◌, ⊤, Option, None, Some, Result, Ok, Err, MatchResult}
use Rattle.answers.specs.declared.Refusal.{Refusal}
use Rattle.answers.specs.declared.Answer.{Answer}
use Rattle.answers.specs.declared.Answer.TheVariants.{Accepted, Refused}
use Rattle.answers.specs.Rows.{refusal}

-- what a function gives whose rows give r: a value where none of them fits, and else r
abbrev pub ruled : {T : Type 0} → Refusal → T → Result T Refusal
ruled r x = cond (eqb r.number 0) (Ok x) (Err r)

-- the same of a value of which only P is said
abbrev pub RuledBy : {T : Type 0} → Refusal → (T → Type 0) → Result T Refusal → Type 0
RuledBy r P result = MatchResult result (λ x. (r.number ≡ 0) × P x) (λ e. (e ≡ r) × (r.number ≡ 0 → ⊥))

-- what the place gives at which a row was found to fit
abbrev pub refused_at : ℕ → Option ℕ → Result ⊤ Refusal
refused_at number None = Ok tt
refused_at number (Some i) = Err (refusal number i)

-- a refusal's number, where it is one
abbrev pub if_any : ℕ → Option ℕ
if_any number = cond (eqb number 0) None (Some number)

-- the answer of a call that gives a number of words, or a refusal
abbrev pub answered : Result ℕ Refusal → Answer
answered (Ok length) = Accepted length 0
answered (Err r) = Refused r.number r.position 0
