-- What a move hands back: the trial with a start more, and the refusal row after row. Assumes nothing.
use mathlib.Core.List.{List}
use mathlib.Core.Path.{◌≡◌, refl, ap, sym, ◌∙◌}
use Prim.Native.Nat.{ℕ, ◌+◌, ◌<◌, ◌≤◌}
use native.Mathlib.Numerals.{add-one}
use native.Mathlib.Omega.{arith}
use borrow.Author.Tests.{eq-eqb, le-leb, lt-leb, leb-false}
use lib.Dec.{leb}
use lib.ListN.{length, take}
use lib.Seq.{sets, length-sets, length-take-le}
use Rattle.words.specs.Fields.{start_word}
use Rattle.words.specs.Lists.{insert, first_words}
use Rattle.words.proofs.Copies.{sets_first}
use Rattle.words.proofs.Lists.{first_words-take}
use Rattle.words.proofs.Insert.{insert-length}
use Rattle.answers.specs.declared.Refusal.{Refusal}
use Rattle.answers.specs.Rows.{refusal, passed, row}
use Rattle.answers.proofs.Rows.{or_refused, or_passed, row-none}
use Rattle.job.specs.Parts.{last_moment}
use Rattle.job.specs.Refusal.{job_refusal}
use Rattle.job.specs.Code.WellFormed.{WellFormed}
use Rattle.facts.specs.Facts.{facts_upto}
use Rattle.moves.specs.Trials as trials
use Rattle.moves.specs.Trials.{Move, Start, On, trial_refusal, start_refusal, on_refusal, own_refusal, move_refusal, moved, after}
use Rattle.moves.specs.Calls.{shown_facts}
use Rattle.moves.proofs.Played.{named}
use Rattle.moves.proofs.Shown.{refused-keeps}
use Rattle.trial.specs.declared.Trial.{Trial}
use Rattle.trial.specs.Stepped.{trial_of, Stepped, Sized}
use Rattle.trial.specs.Code.Given.{WithWord}
use Rattle.trial.proofs.Judging.{starts_taken}
use Rattle.trial.proofs.None.{no_move}

-- a word put into the words in front of an array
module _ (t : Trial) (w : ℕ) (s : Sized t) (room : t.length < 4096) {next : List ℕ}
    (put : next ≡ sets t.starts 0 (insert w (take t.length t.starts))) where
  more : length (insert w (take t.length t.starts)) ≡ t.length + 1
  more = insert-length w (take t.length t.starts) ∙ rw (length-take-le t.length t.starts (omega (arith, s.size)), add-one t.length)

  pub put_size : length next ≡ 4096
  put_size = ap length put ∙ length-sets t.starts 0 (insert w (take t.length t.starts)) ∙ s.size

  pub put_front : first_words (t.length + 1) next ≡ insert w (take t.length t.starts)
  put_front =
      first_words-take (t.length + 1) next (omega (arith, put_size))
      ∙ rw (put, ← more) (sets_first t.starts (insert w (take t.length t.starts)) (omega (arith, more, s.size)))

-- the first row on a move that fits: of the job, of the trial, or the move's own
module _ (job : List ℕ) (T : trials.Trial) (m : Move) where
  pub by_job : ((job_refusal job).number ≡ 0 → ⊥) → job_refusal job ≡ move_refusal job T m
  unfolding move_refusal
  by_job n = or_refused (job_refusal job) _ n

  module _ (good : (job_refusal job).number ≡ 0) where
    pub by_trial : ((trial_refusal job T).number ≡ 0 → ⊥) → trial_refusal job T ≡ move_refusal job T m
    unfolding move_refusal
    by_trial n = or_refused (trial_refusal job T) (own_refusal job T m) n ∙ or_passed (job_refusal job) _ good

    pub by_own : (trial_refusal job T).number ≡ 0 → own_refusal job T m ≡ move_refusal job T m
    unfolding move_refusal
    by_own z = or_passed (trial_refusal job T) (own_refusal job T m) z ∙ or_passed (job_refusal job) _ good

-- a refused move, and an accepted one
module _ (job : List ℕ) (t : Trial) (m : Move) where
  pub stepped_refused : {r : Refusal} → r ≡ move_refusal job (trial_of t) m → ((move_refusal job (trial_of t) m).number ≡ 0 → ⊥)
      → Stepped job t m (record { refusal = r; trial = t })
  stepped_refused is never = record { refusal = is; trial = sym (refused-keeps job (trial_of t) m never); same = λ z. refl }

  pub after_moved : (move_refusal job (trial_of t) m).number ≡ 0 → (t' : Trial) → trial_of t' ≡ moved (trial_of t) m → trial_of t' ≡ after job (trial_of t) m
  unfolding after
  after_moved z t' e = e ∙ rw (eq-eqb (move_refusal job (trial_of t) m).number 0 z)

  pub stepped_moved : {r : Refusal} → r ≡ passed → (move_refusal job (trial_of t) m).number ≡ 0 → (t' : Trial) → trial_of t' ≡ moved (trial_of t) m
      → Stepped job t m (record { refusal = r; trial = t' })
  stepped_moved {r} is z t' e = record {
    refusal = is ∙ sym (no_move job (trial_of t) m z);
    trial = after_moved z t' e;
    same = λ never. absurd (never (ap (λ (r : Refusal). r.number) is));
  }

-- the two moves, by the words in the array
module _ (job : List ℕ) (t : Trial) (s : Sized t) where
  taken : (trial_of t).starts ≡ take t.length t.starts
  taken = starts_taken t s.size s.few

  module _ (a : ℕ) where
    pub own_start : start_refusal job (record { moment = t.moment; starts = take t.length t.starts }) a ≡ own_refusal job (trial_of t) (Start a)
    own_start = ap (λ (S : List ℕ). start_refusal job (record { moment = t.moment; starts = S }) a) (sym taken)

    pub named_start : WellFormed job → (start_refusal job (record { moment = t.moment; starts = take t.length t.starts }) a).number ≡ 0 → a < 64
    named_start formed z =
        omega (arith, named job (record { moment = t.moment; starts = take t.length t.starts }) a z, formed.few_actions)

    pub moved-start : {w : ℕ} {r : Trial} → w ≡ start_word t.moment a → WithWord t w r → trial_of r ≡ moved (trial_of t) (Start a)
    moved-start e h = h.trial ∙ rw (e, taken)

  -- going on: refused at the last moment, or not
  pub own_late : last_moment job ≤ t.moment → refusal 14 0 ≡ own_refusal job (trial_of t) On
  unfolding on_refusal
  own_late l = rw (le-leb (last_moment job) t.moment l)

  pub own_on : t.moment < last_moment job → (own_refusal job (trial_of t) On).number ≡ 0
  unfolding on_refusal
  own_on l = rw (lt-leb (last_moment job) t.moment l)

  -- Where the row that refuses a trial from moment n on gives no number, the trial's moment is before n.
  pub before_last : {n : ℕ} {r : Refusal} → r ≡ row (leb n t.moment) 14 0 → r.number ≡ 0 → t.moment < n
  before_last {n} is z = leb-false _ _ (row-none (leb n t.moment) 14 0 (omega arith) (ap (λ (r : Refusal). r.number) (sym is) ∙ z))

  pub facts_shown : facts_upto job (take t.length t.starts) t.moment ≡ shown_facts job (trial_of t)
  facts_shown = rw taken
