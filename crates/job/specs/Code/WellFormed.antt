-- Between functions: what a well-formed job, one that no row on its length, its words or its end fits (`(job_refusal job).number ≡ 0`), has:
-- what the layers above may use. `well_formed` (proofs/WellFormed.antt) shows it.
use Rattle.std.specs.Prelude.{List, ◌≡◌, ◌⊎◌, ℕ, suc, ◌<◌, ◌≤◌, length, get_or, drop}
use Rattle.words.specs.Fields.{kind, form, most_fluents, fluent_of, formula_x, formula_y, atom_fluent, node_x, node_m, node_n, member_node, condition_formula, condition_i, condition_j, group_number}
use Rattle.words.specs.Scan.{count}
use Rattle.job.specs.Children.{node_children}
use Rattle.job.specs.Before.{before, named}
use Rattle.job.specs.Parts.{head_word, fluents, actions, last_moment, total, words_from, duration, formula_word, node_count, node_word, member_words, condition_words}
use Rattle.job.specs.Code.Parts.{formula_count}

-- `places` has the position of each word of kind k
pub record Indexed (job : List ℕ) (k : ℕ) (places : List ℕ) : Type 0 where
  pub inside : (j : ℕ) → j < total k job → get_or places j 0 < length job
  pub words : (j : ℕ) → j < total k job → words_from k job j ≡ drop (get_or places j 0) job

-- formula k: its fluent is the job's, and the formulas that it refers to are lower
pub record FormulaFormed (job : List ℕ) (k : ℕ) : Type 0 where
  pub forms : form (formula_word job k) ≤ 5
  pub fluent : form (formula_word job k) ≡ 1 → atom_fluent (head_word job) (formula_word job k) < fluents job
  pub lower_x : 2 ≤ form (formula_word job k) → formula_x (formula_word job k) < k
  pub lower_y : 3 ≤ form (formula_word job k) → form (formula_word job k) ≤ 4 → formula_y (formula_word job k) < k

-- node p: what its form refers to is there, and its children are lower
pub record NodeFormed (job : List ℕ) (p : ℕ) : Type 0 where
  pub forms : form (node_word job p) ≤ 8
  pub action : form (node_word job p) ≡ 0 → node_x (node_word job p) < actions job
  pub formula : (form (node_word job p) ≡ 1) ⊎ ((4 ≤ form (node_word job p)) × (form (node_word job p) ≤ 5)) → node_x (node_word job p) < formula_count job
  pub lower : (q : ℕ) → 0 < count q (node_children (node_word job p)) → q < p
  pub window : 6 ≤ form (node_word job p) → form (node_word job p) ≤ 7 → node_m (node_word job p) ≤ node_n (node_word job p)

-- a condition of a task set with `members` members
pub record ConditionFormed (job : List ℕ) (members w : ℕ) : Type 0 where
  pub forms : form w ≤ 4
  pub formula : 2 ≤ form w → condition_formula w < formula_count job
  pub first : condition_i w < members
  pub second : condition_j w < members

-- the task set at node p: 1 to 4 members, which are lower, and at most 8 conditions, on members that it has
pub record SetFormed (job : List ℕ) (p : ℕ) : Type 0 where
  pub some_members : 0 < length (member_words job p)
  pub few_members : length (member_words job p) ≤ 4
  pub lower : (i : ℕ) → i < length (member_words job p) → member_node (get_or (member_words job p) i 0) < p
  pub few_conditions : length (condition_words job p) ≤ 8
  pub condition : (c : ℕ) → c < length (condition_words job p) → ConditionFormed job (length (member_words job p)) (get_or (condition_words job p) c 0)

-- a well-formed job; its words of kind 2 stand directly after the head, and no two list one fluent
pub record WellFormed (job : List ℕ) : Type 0 where
  pub some : 0 < length job
  pub short : length job ≤ 2048
  pub some_fluents : 0 < fluents job
  pub few_fluents : fluents job ≤ 256
  pub fluents-by_head : fluents job ≤ most_fluents (head_word job)
  pub some_actions : 0 < actions job
  pub few_actions : actions job ≤ 64
  pub few_moments : last_moment job ≤ 63
  pub known : (i : ℕ) → i < length job → kind (get_or job i 0) ≡ 2 → fluent_of (head_word job) (get_or job i 0) < fluents job
  pub known_front : (i : ℕ) → i < length job → kind (get_or job i 0) ≡ 2 → (j : ℕ) → 0 < j → j ≤ i → kind (get_or job j 0) ≡ 2
  pub known_once : (i j : ℕ) → i < length job → j < length job → kind (get_or job i 0) ≡ 2 → kind (get_or job j 0) ≡ 2 → fluent_of (head_word job) (get_or job i 0) ≡ fluent_of (head_word job) (get_or job j 0) → i ≡ j
  pub counted : total 3 job ≡ actions job
  pub lasting : (a : ℕ) → a < actions job → 0 < duration job a
  pub law : (i : ℕ) → i < length job → kind (get_or job i 0) ≡ 4 → fluent_of (head_word job) (get_or job i 0) < fluents job
  pub group : (i : ℕ) → i < length job → kind (get_or job i 0) ≡ 13 → group_number (get_or job i 0) < 8
  pub group_member : (i : ℕ) → i < length job → kind (get_or job i 0) ≡ 14 → group_number (get_or job i 0) < 8
  pub few_formulas : formula_count job ≤ 64
  pub formula : (k : ℕ) → k < formula_count job → FormulaFormed job k
  pub some_nodes : 0 < node_count job
  pub few_nodes : node_count job ≤ 64
  pub node : (p : ℕ) → p < node_count job → NodeFormed job p
  pub set : (p : ℕ) → p < node_count job → form (node_word job p) ≡ 8 → SetFormed job p
  pub once : (v : ℕ) → suc v < node_count job → named v (before job (length job)) ≡ 1
