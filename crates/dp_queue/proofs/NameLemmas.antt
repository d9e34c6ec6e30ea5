-- The agents and their names: the map of their numbers after one more, and changes that keep the names.
use Rattle.std.proofs.Common.{◌≡◌, ◌≢◌, ℕ, zero, suc, Bool, true, false, List, [], ◌∷◌, ◌++◌, map, Option, Some, None, refl, sym, length, ap, ◌∙◌, if◌then◌else◌, subst, nat_lt}
use Rattle.std.proofs.lemmas.List.{map-append}
use Rattle.std.proofs.lemmas.List.Elements.{All-map}
use Rattle.std.proofs.lemmas.List.Quantifiers.{all_pairs_push}
use Rattle.std.proofs.lemmas.Map.Text.{is_eq-slice_cmp}
use Rattle.std.proofs.lemmas.Option.{none-some}
use Rattle.std.specs.BTreeMap.{BTreeMap, UpdatesBy}
use Rattle.std.specs.Cmp.{eq_by_cmp_equiv}
use Rattle.std.specs.Cmp.Lexicographic.{slice_cmp, nat_list_cmp_total, nat_list_eq_equiv}
use Rattle.std.specs.Global.{Vec}
use Rattle.std.specs.List.{AllPairs, position, position_or_len}
use Rattle.std.specs.Map.{lookup, IsKeyTest, AreApart, KeepsOthers}
use Rattle.std.specs.Option.{option_map, unwrap_or}
use Rattle.std.specs.Ordering.{is_eq, nat_cmp}
use Rattle.dp_conf.specs.Words.{same_text}
use Rattle.dp_queue.specs.Agents.{agent_number, is_named, names_of, number_at, AreNumbered, with_state_at, all_freed}
use Rattle.dp_queue.specs.declared.agent.Agent.{Agent}
use Rattle.dp_queue.specs.declared.agent.AgentState.{AgentState}
use Rattle.dp_queue.proofs.MemberLemmas.{names-apart}
use Rattle.dp_queue.proofs.PlacesLemmas.{position-cons, text-same}

module _ {X : Type 0} (p : X → Bool) where
  -- an element that does not pass keeps the first one that does
  position-others : (xs : List X) (x : X) → p x ≡ false → position p (xs ++ x ∷ []) ≡ position p xs
  position-others [] x fails = position-cons p x [] ∙ ap (λ (b : Bool). if b then Some 0 else None) fails
  position-others (y ∷ xs) x fails =
      position-cons p y (xs ++ x ∷ []) ∙ ap (λ o. if p y then Some 0 else option_map suc o) (position-others xs x fails)
      ∙ sym (position-cons p y xs)

  -- a passing element after others that do not pass is the first
  position-last : (xs : List X) (x : X) → p x ≡ true → position p xs ≡ None → position p (xs ++ x ∷ []) ≡ Some (length xs)
  position-last [] x passes none = position-cons p x [] ∙ ap (λ (b : Bool). if b then Some 0 else None) passes
  position-last (y ∷ xs) x passes none =
      position-cons p y (xs ++ x ∷ [])
      ∙ by (p y) (position p xs) (sym (position-cons p y xs) ∙ none) (position-last xs x passes)
    where
      by : (b : Bool) (o : Option ℕ) → (if b then Some 0 else option_map suc o) ≡ None
          → (o ≡ None → position p (xs ++ x ∷ []) ≡ Some (length xs))
          → (if b then Some 0 else option_map suc (position p (xs ++ x ∷ []))) ≡ Some (suc (length xs))
      by true o gone rest = absurd (none-some 0 (sym gone))
      by false None gone rest = ap (option_map suc) (rest refl)
      by false (Some k) gone rest = absurd (none-some (suc k) (sym gone))

  -- the first one that passes, given a function of the elements
  position-map : {W : Type 0} (f : W → X) (ws : List W) → position p (map f ws) ≡ position (λ w. p (f w)) ws
  position-map f [] = refl
  position-map f (w ∷ ws) =
      position-cons p (f w) (map f ws) ∙ ap (λ o. if p (f w) then Some 0 else option_map suc o) (position-map f ws)
      ∙ sym (position-cons (λ v. p (f v)) w ws)

-- no agent has a name whose number is not that of an agent
position-absent : (name : List ℕ) (agents : List Agent) → nat_lt (agent_number agents name) (length agents) ≡ false
    → position (is_named name) agents ≡ None
position-absent name agents absent =
    by (nat_lt (position_or_len (is_named name) agents) (length agents)) (position_or_len (is_named name) agents) (length agents)
    refl absent
  where
    by : (b : Bool) (k n : ℕ) → nat_lt k n ≡ b → nat_lt (unwrap_or (if b then Some k else None) n) n ≡ false
        → (if b then Some k else None) ≡ None
    by true k n less past = absurd (cc)
    by false k n less past = refl

-- another key finds the same as before
module _ {K : Type 0} (eq : K → K → Bool) (test : K → Bool) where
  entries-kept : {X : Type 0} (old new : List (K × X)) → KeepsOthers eq test old new → (other : K → Bool) → IsKeyTest eq other
      → AreApart test other → lookup other new ≡ lookup other old
  unfolding KeepsOthers
  entries-kept old new kept = kept

-- a map with a number at a key is otherwise unchanged
module _ (numbers new : BTreeMap (Vec ℕ) ℕ) (key : Vec ℕ) (number : ℕ)
    (put : UpdatesBy (λ x y. slice_cmp nat_cmp x.items y.items) (λ k. slice_cmp nat_cmp key.items k.items) numbers new (Some number)) where
  number-other : (name : List ℕ) → same_text key.items name ≡ false → number_at new name ≡ number_at numbers name
  number-other name differs =
      entries-kept _ _ _ _ put.3 (λ k. is_eq (slice_cmp nat_cmp name k.items))
      (λ x y. (eq_by_cmp_equiv nat_list_cmp_total).congr name x.items y.items) apart
    where
      apart : (k : Vec ℕ) → is_eq (slice_cmp nat_cmp key.items k.items) ≡ true → is_eq (slice_cmp nat_cmp name k.items) ≡ false
      apart k same =
          is_eq-slice_cmp name k.items ∙ nat_list_eq_equiv.symm name k.items
          ∙ sym (nat_list_eq_equiv.congr key.items k.items name (sym (is_eq-slice_cmp key.items k.items) ∙ same)) ∙ differs

  -- one more agent with the key's name, which no other one has
  pub numbered-push : (name : List ℕ) (agents bs : List Agent) (state : AgentState)
      → nat_lt (agent_number agents name) (length agents) ≡ false → key.items ≡ name → number ≡ length agents
      → bs ≡ agents ++ record { name = name; state = state } ∷ [] → AreNumbered numbers agents → AreNumbered new bs
  numbered-push name agents bs state absent is last known numbered = subst (AreNumbered new) (sym known) (found, differ)
    where
      agent : Agent
      agent = record { name = name; state = state }

      here : number_at new name ≡ position (is_named name) (agents ++ agent ∷ [])
      here =
          ap (number_at new) (sym is) ∙ put.1 ∙ ap (λ (n : ℕ). Some n) last
          ∙ sym (position-last (is_named name) agents agent (nat_list_eq_equiv.refl name) (position-absent name agents absent))

      found : (other : List ℕ) → number_at new other ≡ position (is_named other) (agents ++ agent ∷ [])
      found other = by (same_text name other) refl
        where
          by : (b : Bool) → same_text name other ≡ b → number_at new other ≡ position (is_named other) (agents ++ agent ∷ [])
          by true same =
              subst (λ text. number_at new text ≡ position (is_named text) (agents ++ agent ∷ [])) (text-same name other same) here
          by false differs =
              number-other other (ap (λ text. same_text text other) is ∙ differs) ∙ numbered.0 other
              ∙ sym (position-others (is_named other) agents agent differs)

      differ : AllPairs (λ (a : List ℕ) (b : List ℕ). a ≢ b) (names_of (agents ++ agent ∷ []))
      differ =
          subst (AllPairs (λ (a : List ℕ) (b : List ℕ). a ≢ b)) (sym (map-append (λ (a : Agent). a.name) agents (agent ∷ [])))
          (all_pairs_push (λ (a : List ℕ) (b : List ℕ). a ≢ b) (names_of agents) name numbered.1
          (All-map (λ (a : List ℕ). a ≢ name) (λ (a : Agent). a.name) agents (names-apart name agents absent)))

-- agents whose names do not change
pub numbered-kept : (numbers : BTreeMap (Vec ℕ) ℕ) (agents bs : List Agent) → names_of bs ≡ names_of agents
    → AreNumbered numbers agents → AreNumbered numbers bs
numbered-kept numbers agents bs same numbered = (
  λ name. numbered.0 name ∙ sym (by_names name agents) ∙ ap (position (λ other. same_text other name)) (sym same) ∙ by_names name bs,
  subst (AllPairs (λ (a : List ℕ) (b : List ℕ). a ≢ b)) (sym same) numbered.1,
)
  where
    by_names : (name : List ℕ) (as' : List Agent) → position (λ other. same_text other name) (names_of as') ≡ position (is_named name) as'
    by_names name as' = position-map (λ other. same_text other name) (λ (agent : Agent). agent.name) as'

pub names-set : (number : ℕ) (state : AgentState) (agents : List Agent) → names_of (with_state_at number state agents) ≡ names_of agents
names-set number state [] = refl
names-set zero state (agent ∷ agents) = refl
names-set (suc number) state (agent ∷ agents) = ap (λ (t : List (List ℕ)). agent.name ∷ t) (names-set number state agents)

pub names-freed : (c : ℕ) (agents : List Agent) → names_of (all_freed c agents) ≡ names_of agents
names-freed c [] = refl
names-freed c (agent ∷ agents) = ap (λ (t : List (List ℕ)). agent.name ∷ t) (names-freed c agents)
