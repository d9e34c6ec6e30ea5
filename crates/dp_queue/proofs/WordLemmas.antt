-- The queues and their names: the walk to the queue with a name, and changes that keep the names.
use Rattle.std.proofs.Common.{◌≡◌, ℕ, zero, suc, ◌<◌, Bool, true, false, List, [], ◌∷◌, ◌++◌, map, fold, Option, Some, None, refl, sym, length, get_or, ap, ◌∙◌, arith, if◌then◌else◌, slice_get, subst, nat_lt}
use Rattle.std.proofs.lemmas.List.{get_or-map, length-map, map-append}
use Rattle.std.proofs.lemmas.List.Elements.{All-map}
use Rattle.std.proofs.lemmas.List.Folds.{fold-map}
use Rattle.std.proofs.lemmas.List.Quantifiers.{all_pairs_push}
use Rattle.std.proofs.lemmas.List.Sums.{fails_before_first}
use Rattle.std.specs.Char.{to_ascii_lowercase}
use Rattle.std.specs.Cmp.Lexicographic.{nat_list_eq_equiv}
use Rattle.std.specs.Hash.FoldHasher as folding
use Rattle.std.specs.List.{All, AllPairs, position, position_or_len}
use Rattle.std.specs.Option.{option_map, unwrap_or}
use Rattle.std.specs.declared.hash.FoldHasher.{FoldHasher}
use Rattle.dp_conf.specs.Words.{same_word}
use Rattle.dp_conf.specs.Changes.{changed_at}
use Rattle.dp_queue.specs.steps.Places.{word_hash, with_letter, last_place, place_before, words_of, is_worded_at, AreWorded}
use Rattle.dp_queue.specs.Queues.{QueueOf, queue_number}
use Rattle.dp_queue.proofs.PlacesLemmas.{IsWalked, walked-first, walked-next, walked-there, walked-found, last_position-only, text-same}
use borrow.Author.Tests.{ltb-false}

-- words that are the same except for case have the same hash
word_hash-same : (a b : List ℕ) → same_word a b ≡ true → word_hash a ≡ word_hash b
unfolding word_hash
word_hash-same a b same =
    ap folding.finish (sym (folded a) ∙ ap (fold step folding.initial) (text-same (map to_ascii_lowercase a) (map to_ascii_lowercase b) same) ∙ folded b)
  where
    step : FoldHasher → ℕ → FoldHasher
    step hasher letter = folding.write hasher (letter ∷ [])

    folded : (word : List ℕ) → fold step folding.initial (map to_ascii_lowercase word) ≡ fold with_letter folding.initial word
    folded word = fold-map step to_ascii_lowercase folding.initial word

-- a queue has the name
abbrev pub is_worded : List ℕ → QueueOf → Bool
is_worded name queue = same_word queue.name name

-- the hashes of the names of queues
hashes-worded : (queues : List QueueOf) → map word_hash (words_of queues) ≡ map (λ queue. word_hash queue.name) queues
hashes-worded [] = refl
hashes-worded (queue ∷ queues) = ap (λ (t : List ℕ). word_hash queue.name ∷ t) (hashes-worded queues)

-- queues with different names do not both have a given name
worded-once : (name : List ℕ) (queues : List QueueOf) → AllPairs (λ a b. same_word a b ≡ false) (words_of queues)
    → AllPairs (λ queue other. is_worded name queue ≡ true → is_worded name other ≡ false) queues
worded-once name queues differ j k d before within first = by (is_worded name (get_or queues k d)) refl
  where
    low : List ℕ → List ℕ
    low = map to_ascii_lowercase

    name_at : (i : ℕ) → i < length queues → get_or (words_of queues) i d.name ≡ (get_or queues i d).name
    name_at i inside = get_or-map (λ (queue : QueueOf). queue.name) queues i d d.name inside

    apart : same_word (get_or queues j d).name (get_or queues k d).name ≡ false
    apart =
        sym (λ i. same_word (name_at j (omega (arith, before, within)) i) (name_at k within i))
        ∙ differ j k d.name before (omega (arith, within, length-map queues (λ (queue : QueueOf). queue.name)))

    by : (b : Bool) → is_worded name (get_or queues k d) ≡ b → b ≡ false
    by true second =
        let one : same_word (get_or queues j d).name (get_or queues k d).name ≡ true =
        nat_list_eq_equiv.congr (low (get_or queues j d).name) (low name) (low (get_or queues k d).name) first
        ∙ nat_list_eq_equiv.symm (low name) (low (get_or queues k d).name) ∙ second in
        sym one ∙ apart
    by false second = refl

-- queues whose names do not change
pub worded-kept : (hashes : List ℕ) (queues ps : List QueueOf) → words_of ps ≡ words_of queues → AreWorded hashes queues → AreWorded hashes ps
worded-kept hashes queues ps same worded =
    let P : List (List ℕ) → Type 0 = λ words. (hashes ≡ map word_hash words) × AllPairs (λ (a : List ℕ) (b : List ℕ). same_word a b ≡ false) words in
    subst P (sym same) worded

pub words-changed : (change : QueueOf → QueueOf) (number : ℕ) (queues : List QueueOf) → ((q : QueueOf) → (change q).name ≡ q.name)
    → words_of (changed_at change number queues) ≡ words_of queues
words-changed change number [] keeps = refl
words-changed change zero (queue ∷ queues) keeps = ap (λ (word : List ℕ). word ∷ words_of queues) (keeps queue)
words-changed change (suc number) (queue ∷ queues) keeps = ap (λ (t : List (List ℕ)). queue.name ∷ t) (words-changed change number queues keeps)

-- a change of one queue that keeps its name
pub worded-changed : (hashes : List ℕ) (change : QueueOf → QueueOf) (number : ℕ) (queues ps : List QueueOf) → ((q : QueueOf) → (change q).name ≡ q.name)
    → ps ≡ changed_at change number queues → AreWorded hashes queues → AreWorded hashes ps
worded-changed hashes change number queues ps keeps is worded =
    worded-kept hashes queues ps (ap words_of is ∙ words-changed change number queues keeps) worded

-- and the same for all queues
pub words-mapped : (change : QueueOf → QueueOf) (queues : List QueueOf) → ((q : QueueOf) → (change q).name ≡ q.name) → words_of (map change queues) ≡ words_of queues
words-mapped change [] keeps = refl
words-mapped change (queue ∷ queues) keeps = (λ i. keeps queue i ∷ words-mapped change queues keeps i)

-- if none passes, each fails
fails-none : {X : Type 0} (p : X → Bool) (xs : List X) → position p xs ≡ None → All (λ x. p x ≡ false) xs
fails-none p xs none k d within =
    fails_before_first p xs k d (omega (arith, within, ltb-false (position_or_len p xs) (length xs) (past (nat_lt (position_or_len p xs) (length xs)) none)))
  where
    past : (b : Bool) → (if b then Some (position_or_len p xs) else None) ≡ None → b ≡ false
    past true e = absurd (cc)
    past false e = refl

-- one more queue, with a name that no other one has
pub worded-push : (hashes new name : List ℕ) (queues ps : List QueueOf) (queue : QueueOf) → queue.name ≡ name → queue_number queues name ≡ None
    → new ≡ hashes ++ word_hash name ∷ [] → ps ≡ queues ++ queue ∷ [] → AreWorded hashes queues → AreWorded new ps
worded-push hashes new name queues ps queue is absent more known worded =
    let words : words_of ps ≡ words_of queues ++ name ∷ [] =
    ap words_of known ∙ map-append (λ (q : QueueOf). q.name) queues (queue ∷ []) ∙ ap (λ (word : List ℕ). words_of queues ++ word ∷ []) is in
    let P : List (List ℕ) → Type 0 = λ ws. (new ≡ map word_hash ws) × AllPairs (λ (a : List ℕ) (b : List ℕ). same_word a b ≡ false) ws in
    subst P (sym words) (
      more ∙ ap (λ (hs : List ℕ). hs ++ word_hash name ∷ []) worded.0 ∙ sym (map-append word_hash (words_of queues) (name ∷ [])),
      all_pairs_push (λ (a : List ℕ) (b : List ℕ). same_word a b ≡ false) (words_of queues) name worded.1
          (All-map (λ (a : List ℕ). same_word a name ≡ false) (λ (q : QueueOf). q.name) queues (fails-none (is_worded name) queues absent)),
    )

-- the walk to the queue with a name
abbrev pub IsWalkedTo : List ℕ → List QueueOf → Option ℕ → Type 0
IsWalkedTo name queues at = IsWalked (is_worded name) (λ queue. word_hash queue.name) (word_hash name) queues at

module _ (name hashes : List ℕ) (queues : List QueueOf) (worded : AreWorded hashes queues) where
  queue_hashed : (queue : QueueOf) → is_worded name queue ≡ true → word_hash queue.name ≡ word_hash name
  queue_hashed queue same = word_hash-same queue.name name same

  pub queue-first : (at : Option ℕ) → at ≡ last_place hashes (word_hash name) → IsWalkedTo name queues at
  queue-first at is =
      walked-first (is_worded name) (λ (queue : QueueOf). word_hash queue.name) (word_hash name) queue_hashed queues at
      (is ∙ ap (λ hs. last_place hs (word_hash name)) (worded.0 ∙ hashes-worded queues))

  there : (k : ℕ) → IsWalkedTo name queues (Some k) → (q : QueueOf) × (slice_get queues k ≡ Some q)
  there k walked = walked-there (is_worded name) (λ (queue : QueueOf). word_hash queue.name) (word_hash name) queue_hashed queues k walked

  pub queue-next : (k : ℕ) (at : Option ℕ) → IsWalkedTo name queues (Some k) → is_worded_at name queues k ≡ false
      → at ≡ place_before hashes k (slice_get hashes k) → IsWalkedTo name queues at
  queue-next k at walked fails is =
      walked-next (is_worded name) (λ (queue : QueueOf). word_hash queue.name) (word_hash name) queue_hashed queues k (there k walked).0 at walked (there k walked).1
      (ap (λ o. unwrap_or (option_map (is_worded name) o) false) (sym (there k walked).1) ∙ fails)
      (is ∙ ap (λ hs. place_before hs k (slice_get hs k)) (worded.0 ∙ hashes-worded queues))

  pub queue-found : (k : ℕ) → IsWalkedTo name queues (Some k) → is_worded_at name queues k ≡ true → Some k ≡ queue_number queues name
  queue-found k walked passes =
      sym (walked-found (is_worded name) (λ (queue : QueueOf). word_hash queue.name) (word_hash name) queue_hashed queues k (there k walked).0 walked (there k walked).1
      (ap (λ o. unwrap_or (option_map (is_worded name) o) false) (sym (there k walked).1) ∙ passes))
      ∙ last_position-only (is_worded name) queues (worded-once name queues worded.1)

  pub queue-none : IsWalkedTo name queues None → None ≡ queue_number queues name
  queue-none walked = walked.rest ∙ last_position-only (is_worded name) queues (worded-once name queues worded.1)
