-- Between functions: the length bound: the sum over all nodes of 1 where no loop is above the node, and of the last moment n otherwise.
use Rattle.std.specs.Prelude.{ℕ, zero, suc, Bool, true, false, cond, ◌&&◌, ◌||◌, ltb}
use Rattle.words.specs.Scan.{any_below, count}
use Rattle.bitset.specs.Code.Members.{sum_below}
use Rattle.model.specs.Procedure.{Procedure}
use Rattle.model.specs.Forms.{Form, Act, Test, Sequence, Choice, If, While, StartWindow, EndWindow, Set, Reserved, form_at}
use Rattle.model.specs.Code.Forms.{children}

abbrev pub is_while : Form → Bool
is_while Act = false
is_while Test = false
is_while Sequence = false
is_while Choice = false
is_while If = false
is_while While = true
is_while StartWindow = false
is_while EndWindow = false
is_while Set = false
is_while Reserved = false

-- node p names q as a child
abbrev pub is_child : Procedure → ℕ → ℕ → Bool
is_child P p q = ltb 0 (count q (children P p))

-- at most k steps above node q there is a loop: a node that names q is one, or has one above it
unfoldable pub loop_within : Procedure → ℕ → ℕ → Bool
loop_within P zero q = false
loop_within P (suc k) q = any_below (λ p. is_child P p q && (is_while (form_at P p) || loop_within P k p)) P.count

-- a loop is above node q: a parent's number is higher than its child's, so that there are fewer steps than nodes
abbrev pub loop_above : Procedure → ℕ → Bool
loop_above P q = loop_within P P.count q

abbrev pub weight : Procedure → ℕ → ℕ → ℕ
weight P n q = cond (loop_above P q) n 1

unfoldable pub length_bound : Procedure → ℕ → ℕ
length_bound P n = sum_below (weight P n) P.count
