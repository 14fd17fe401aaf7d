-- Between functions: where a word is put into an ascending list.
use Rattle.std.specs.Prelude.{Bool, not, ℕ, ltb}

-- a word that stays before w
abbrev pub not_above : ℕ → ℕ → Bool
not_above w s = not (ltb w s)
