-- "first come first served": who comes stands behind the tasks of its processor that are in line; when the first task of the head
-- leaves, those of each processor stay in their order, also of one that is sent to the tail.
use Rattle.queue_rules.proofs.Ground.{ℕ, Bool, true, false, cond, ◌||◌, or-false, or-true, or_assoc, ◌≡◌, refl, sym, ◌∙◌, List, []}
use Rattle.queue_rules.proofs.Ground.{◌∷◌, ◌++◌, eqb, eqb-true, eqb-false, eq-eqb, ne_eqb, by_eq, Terms, Turn, turn, Line, line}
use Rattle.queue_rules.proofs.Ground.{queue_of, among, stands_in, holds, has_turn, tasks_of, begin, join, entered, send_back, leave}
use Rattle.folds.proofs.Searches.{on_eq}
use Rattle.queue_rules.proofs.Cases.{by_test, by_leave, or_no}
use Rattle.queue_rules.proofs.Sound.{among_last}

-- a processor that is not queued has no task in line
pub no_tasks : (k : ℕ) (q : List Turn) → has_turn k q ≡ false → tasks_of k q ≡ []
no_tasks k [] a = refl
no_tasks k (turn j u us ∷ q) a = let (n, m) = or_no (eqb j k) (has_turn k q) a in rw n (no_tasks k q m)

-- a turn at the tail
tasks_last : (k v j : ℕ) (vs : List ℕ) (q : List Turn) → has_turn k q ≡ false
    → tasks_of j (q ++ (turn k v vs ∷ [])) ≡ cond (eqb k j) (v ∷ vs) (tasks_of j q)
tasks_last k v j vs [] a = refl
tasks_last k v j vs (turn l u us ∷ q) a =
    let (n, m) = or_no (eqb l k) (has_turn k q) a in
    by_eq (λ (b : Bool). cond b (u ∷ us) (tasks_of j (q ++ (turn k v vs ∷ []))) ≡ cond (eqb k j) (v ∷ vs) (cond b (u ∷ us) (tasks_of j q))) l j
    (λ e. rw (ne_eqb k j (λ s. eqb-false l k n (e ∙ sym s))))
    (λ d. tasks_last k v j vs q m)

module _ (t : Terms) where
  join_tasks : (i j : ℕ) (q : List Turn) → tasks_of j (join t i q) ≡ cond (eqb (t.processor i) j) (tasks_of j q ++ (i ∷ [])) (tasks_of j q)
  join_tasks i j [] = refl
  join_tasks i j (turn k u us ∷ q) =
      by_test (λ z. tasks_of j z ≡ cond (eqb (t.processor i) j) (tasks_of j (turn k u us ∷ q) ++ (i ∷ [])) (tasks_of j (turn k u us ∷ q)))
      (eqb k (t.processor i))
      (λ e. rw (← eqb-true k (t.processor i) e) (on_eq _ k j (λ s. rw (eq-eqb k j s)) (λ d. rw (ne_eqb k j d))))
      (λ n. on_eq _ k j
      (λ s. rw (eq-eqb k j s, ne_eqb (t.processor i) j (λ z. eqb-false k (t.processor i) n (s ∙ sym z))))
      (λ d. rw (ne_eqb k j d) (join_tasks i j q)))

  pub entered_queue : (i : ℕ) (l : Line) → queue_of (entered t i l) ≡ join t i (queue_of l)
  entered_queue i (line h b []) = refl
  entered_queue i (line h b (x ∷ q)) = refl

  -- who holds a held line goes on
  pub entered_holds : (i j h b : ℕ) (x : Turn) (q : List Turn) → holds i (entered t j (line h b (x ∷ q))) ≡ holds i (line h b (x ∷ q))
  entered_holds i j h b (turn k u us) q = by_test (λ z. holds i (line h b z) ≡ eqb u i) (eqb k (t.processor j)) (λ _. refl) (λ _. refl)

  -- "A request joins the tail of the task queue": that of its own processor, and no other changes
  pub comes_last : (i j : ℕ) (l : Line)
      → tasks_of j (queue_of (entered t i l)) ≡ cond (eqb (t.processor i) j) (tasks_of j (queue_of l) ++ (i ∷ [])) (tasks_of j (queue_of l))
  comes_last i j l = rw (entered_queue i l) (join_tasks i j (queue_of l))

  -- who joined stands in line beside those that did
  pub join_stands : (i j : ℕ) (q : List Turn) → stands_in i (join t j q) ≡ (stands_in i q || eqb j i)
  join_stands i j [] = or-false (eqb j i || false) ∙ or-false (eqb j i)
  join_stands i j (turn k u us ∷ q) =
      by_test (λ z. stands_in i z ≡ ((among i (u ∷ us) || stands_in i q) || eqb j i)) (eqb k (t.processor j))
      (λ _. rw (among_last i j (u ∷ us)) (swap (among i (u ∷ us)) (eqb j i) (stands_in i q)))
      (λ _. rw (join_stands i j q) (sym (or_assoc (among i (u ∷ us)) (stands_in i q) (eqb j i))))
    where
      swap : (a b c : Bool) → ((a || b) || c) ≡ ((a || c) || b)
      swap true b c = refl
      swap false b true = or-true b
      swap false b false = or-false b

  pub begun_queue : (q : List Turn) → queue_of (begin t q) ≡ q
  begun_queue [] = refl
  begun_queue (turn k u us ∷ q) = refl

  -- "the processor goes to the tail, that task keeps its first place". By cases, so that a rule with another order is refused for its order
  pub sent_back : (k v j : ℕ) (vs : List ℕ) (rest : List Turn) → has_turn k rest ≡ false
      → tasks_of j (queue_of (send_back t k v vs rest)) ≡ cond (eqb k j) (v ∷ vs) (tasks_of j rest)
  sent_back k v j [] [] a = refl
  sent_back k v j (w ∷ ws) [] a = refl
  sent_back k v j vs (x ∷ rest) a = rw (begun_queue (x ∷ rest ++ (turn k v vs ∷ []))) (tasks_last k v j vs (x ∷ rest) a)

  -- all that leave is the first task of the head
  pub first_served : (b k u j : ℕ) (us : List ℕ) (rest : List Turn) → has_turn k rest ≡ false
      → tasks_of j (queue_of (leave t b (turn k u us ∷ rest))) ≡ cond (eqb k j) us (tasks_of j rest)
  first_served b k u j [] rest a =
      rw (begun_queue rest) (by_eq (λ (d : Bool). tasks_of j rest ≡ cond d [] (tasks_of j rest)) k j (λ e. rw (← e) (no_tasks k rest a)) (λ d. refl))
  first_served b k u j (v ∷ vs) rest a =
      by_leave t (λ l. tasks_of j (queue_of l) ≡ cond (eqb k j) (v ∷ vs) (tasks_of j rest)) b k u v vs rest (λ e. refl) (sent_back k v j vs rest a)
