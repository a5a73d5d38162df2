-- Rows written back field by field come to a narrowing. Assumes nothing.
use Rattle.std.proofs.Common.{◌≡◌, ℕ, zero, suc, ◌+◌, ◌<◌, Bool, true, false, ◌||◌, ◌⊎◌, List, [], ◌∷◌, ◌++◌, length, get_or, take, set, Decides, sym, refl, ◌∙◌, subst, inl, inr, ⊎_elim, arith, length-set, take_all, get_or-set_other}
use Rattle.std.proofs.lemmas.Bool.{cases_Bool, both_ways, false≢true, or_cases, or_left, or_right}
use Rattle.rows.specs.Values.{Values}
use Rattle.rules.specs.Books.{sets, Loses, Narrowing}
use Rattle.rules.specs.Writes.{Written, none_left}
use Rattle.rules.specs.Rules.{Sets, Rule, In, Distinct, Supported}
use Rattle.rules.proofs.Fields.{front_more, front_old, front_new, front_apart, in_front}
use Rattle.rules.proofs.Lists.{find, in_either, in_first, in_second}
use Rattle.rules.proofs.RowSets.{sets_same, sets_written}

module _ {R : Type 0} (values : R → Values) (new : Sets) (scope : List ℕ) (before : List R) where
  -- nothing is written yet
  pub none_written : Written values new scope 0 before before false
  none_written = record {
    long = refl;
    done = λ f v h. absurd (nothing scope f h);
    others = λ f d h. refl;
    answer = (λ e. absurd (false≢true e), λ k. absurd (nothing scope k.0 k.1));
  }
    where
      nothing : (xs : List ℕ) (f : ℕ) → In f (take 0 xs) → ⊥
      nothing [] f h = h
      nothing (x ∷ xs) f h = h

  -- the field at place i gets its new row
  pub more_written : (i : ℕ) (after : List R) (changed lost : Bool) (row : R) → i < length scope → Distinct scope → get_or scope i 0 < length before
      → Written values new scope i before after changed → ((v : ℕ) → values row v ≡ new (get_or scope i 0) v) → Decides lost (Loses values after (get_or scope i 0) (values row))
      → Written values new scope (i + 1) before (set after (get_or scope i 0) row) (changed || lost)
  more_written i after changed lost row within apart below w reads loss = record {
    long = length-set after f₀ row ∙ w.long;
    done = λ f v h. ⊎_elim
        (λ old. kept f (λ e. fresh (subst (λ x. In x (take i scope)) e old)) v ∙ w.done f v old)
        (λ e. subst (λ x. sets values (set after f₀ row) x v ≡ new x v) (sym e) (sets_written values after f₀ row inside v ∙ reads v))
        (front_more scope i 0 f within h);
    others = λ f d h.
        get_or-set_other after f₀ f row d (λ e. h (subst (λ x. In x (take (i + 1) scope)) (sym e) (front_new scope i 0 within)))
        ∙ w.others f d (λ old. h (front_old scope i f old));
    answer = (
      λ e. ⊎_elim
          (λ was. let k = w.answer.0 was in (k.0, front_old scope i k.0 k.1, k.2))
          (λ now. let k = loss.0 now in (f₀, front_new scope i 0 within, (k.0, sym (same k.0) ∙ k.1, sym (reads k.0) ∙ k.2)))
          (or_cases changed lost e),
      λ k. ⊎_elim
          (λ old. or_left changed lost (w.answer.1 (k.0, old, k.2)))
          (λ e. or_right changed lost (loss.1 (at k.0 e k.2)))
          (front_more scope i 0 k.0 within k.1),
    );
  }
    where
      f₀ : ℕ
      f₀ = get_or scope i 0

      fresh : In f₀ (take i scope) → ⊥
      fresh = front_apart scope i 0 within apart

      inside : f₀ < length after
      inside = subst (λ n. f₀ < n) (sym w.long) below

      -- a write leaves the sets of other fields
      kept : (f : ℕ) → (f ≡ f₀ → ⊥) → (v : ℕ) → sets values (set after f₀ row) f v ≡ sets values after f v
      kept f ne = sets_same values after (set after f₀ row) f (length-set after f₀ row) (λ d. get_or-set_other after f₀ f row d ne)

      -- the row that is replaced is the one of the start
      same : (v : ℕ) → sets values after f₀ v ≡ sets values before f₀ v
      same = sets_same values before after f₀ w.long (λ d. w.others f₀ d fresh)

      at : (f : ℕ) → f ≡ f₀ → Loses values before f (new f) → Loses values after f₀ (values row)
      at f e k =
          let here : Loses values before f₀ (new f₀) = subst (λ x. Loses values before x (new x)) e k in
          (here.0, same here.0 ∙ here.1, reads here.0 ∙ here.2)

  -- all of the scope is written
  pub all_written : (r : Rule) (after : List R) (changed : Bool) → r.scope ≡ scope → Written values new scope (length scope) before after changed
      → ((f v : ℕ) → In f scope → new f v ≡ true → Supported (sets values before) r f v) → ((f v : ℕ) → In f scope → Supported (sets values before) r f v → new f v ≡ true)
      → Narrowing values r before after changed
  all_written r after changed same w left kept = record {
    narrowed = record {
      left = λ f v h e. left f v (into f h) (sym (w.done f v (all f (into f h))) ∙ e);
      kept = λ f v h s. w.done f v (all f (into f h)) ∙ kept f v (into f h) s;
      others = λ f v h. sets_same values before after f w.long (λ d. rest f d h) v;
    };
    others = rest;
    answer = (
      λ e.
          let k = w.answer.0 e in
          (k.0, k.2.0, λ eq. both_ways (new k.0 k.2.0) k.2.2 (sym (w.done k.0 k.2.0 k.1) ∙ eq ∙ k.2.1)),
      λ k. ⊎_elim
          (λ t. lost k.0 k.1 (subst (λ x. In x scope) t.2 t.1) k.2)
          (λ none. absurd (k.2 (sets_same values before after k.0 w.long (λ d. rest k.0 d (λ h. none k.0 (into k.0 h) refl)) k.1)))
          (find (λ x. x) k.0 scope),
    );
  }
    where
      into : (f : ℕ) → In f r.scope → In f scope
      into f = subst (In f) same

      all : (f : ℕ) → In f scope → In f (take (length scope) scope)
      all f = subst (In f) (sym (take_all (length scope) scope (omega arith)))

      rest : (f : ℕ) (d : R) → (In f r.scope → ⊥) → get_or after f d ≡ get_or before f d
      rest f d h = w.others f d (λ k. h (subst (In f) (sym same) (in_front scope (length scope) f k)))

      -- a scope field whose set differs has lost a value
      lost : (f v : ℕ) → In f scope → (sets values after f v ≡ sets values before f v → ⊥) → changed ≡ true
      lost f v h differs = go (cases_Bool (sets values before f v)) (cases_Bool (new f v))
        where
          go : (sets values before f v ≡ true) ⊎ (sets values before f v ≡ false) → (new f v ≡ true) ⊎ (new f v ≡ false) → changed ≡ true
          go (inl a) (inl b) = absurd (differs (w.done f v (all f h) ∙ b ∙ sym a))
          go (inl a) (inr b) = w.answer.1 (f, all f h, (v, a, b))
          go (inr a) (inl b) =
              let s = left f v h b in
              absurd (both_ways (sets values before f v) a (subst (λ u. sets values before f u ≡ true) s.gives (s.inside f (subst (In f) (sym same) h))))
          go (inr a) (inr b) = absurd (differs (w.done f v (all f h) ∙ b ∙ sym a))

-- ---- writes to one list of fields, then to another

-- a list is its own front
all_in : (xs : List ℕ) (f : ℕ) → In f xs → In f (take (length xs) xs)
all_in xs f = subst (In f) (sym (take_all (length xs) xs (omega arith)))

all_from : (xs : List ℕ) (f : ℕ) → In f (take (length xs) xs) → In f xs
all_from xs f = in_front xs (length xs) f

module _ {R : Type 0} (values : R → Values) where
  -- the fields of a list that is written have their new sets
  pub now_new : (new : Sets) (xs : List ℕ) (before after : List R) (changed : Bool) → Written values new xs (length xs) before after changed
      → (f v : ℕ) → In f xs → sets values after f v ≡ new f v
  now_new new xs before after changed w f v h = w.done f v (all_in xs f h)

  -- and the others keep theirs
  pub still_old : (new : Sets) (xs : List ℕ) (before after : List R) (changed : Bool) → Written values new xs (length xs) before after changed
      → (f v : ℕ) → (In f xs → ⊥) → sets values after f v ≡ sets values before f v
  still_old new xs before after changed w f v h = sets_same values before after f w.long (λ d. w.others f d (λ k. h (all_from xs f k))) v

  -- one field gets its new row
  pub one_written : (new : Sets) (f : ℕ) (row : R) (before after : List R) (lost : Bool) → f < length before → ((v : ℕ) → values row v ≡ new f v)
      → after ≡ set before f row → Decides lost (Loses values before f (values row)) → Written values new (f ∷ []) 1 before after lost
  one_written new f row before after lost below reads is loss =
      subst (λ rows. Written values new (f ∷ []) 1 before rows lost) (sym is)
      (more_written values new (f ∷ []) before 0 before false lost row (omega arith) (λ k. k, tt) below (none_written values new (f ∷ []) before) reads loss)

  -- sets that agree on the list are written alike
  pub written_same : (new other : Sets) (xs : List ℕ) (before after : List R) (changed : Bool) → ((f v : ℕ) → In f xs → new f v ≡ other f v)
      → Written values new xs (length xs) before after changed → Written values other xs (length xs) before after changed
  written_same new other xs before after changed same w = record {
    long = w.long;
    done = λ f v h. w.done f v h ∙ same f v (all_from xs f h);
    others = w.others;
    answer = (
      λ e. let k = w.answer.0 e in (k.0, k.1, (k.2.0, k.2.1, sym (same k.0 k.2.0 (all_from xs k.0 k.1)) ∙ k.2.2)),
      λ k. w.answer.1 (k.0, k.1, (k.2.0, k.2.1, same k.0 k.2.0 (all_from xs k.0 k.1) ∙ k.2.2)),
    );
  }

  -- one list is written, then another that shares no field with it
  pub written_append : (new : Sets) (xs ys : List ℕ) (before between after : List R) (first second : Bool) → ((f : ℕ) → In f xs → In f ys → ⊥)
      → Written values new xs (length xs) before between first → Written values new ys (length ys) between after second
      → Written values new (xs ++ ys) (length (xs ++ ys)) before after (first || second)
  written_append new xs ys before between after first second apart w u = record {
    long = u.long ∙ w.long;
    done = λ f v h. ⊎_elim
        (λ k. still_old new ys between after second u f v (apart f k) ∙ now_new new xs before between first w f v k)
        (λ k. now_new new ys between after second u f v k)
        (in_either xs ys f (all_from (xs ++ ys) f h));
    others = λ f d h.
        u.others f d (λ k. h (all_in (xs ++ ys) f (in_second xs ys f (all_from ys f k))))
        ∙ w.others f d (λ k. h (all_in (xs ++ ys) f (in_first xs ys f (all_from xs f k))));
    answer = (
      λ e. ⊎_elim
          (λ a. let k = w.answer.0 a in (k.0, all_in (xs ++ ys) k.0 (in_first xs ys k.0 (all_from xs k.0 k.1)), k.2))
          (λ b. let k = u.answer.0 b in
          let at = all_from ys k.0 k.1 in (
            k.0,
            all_in (xs ++ ys) k.0 (in_second xs ys k.0 at),
            (k.2.0, sym (still_old new xs before between first w k.0 k.2.0 (λ h. apart k.0 h at)) ∙ k.2.1, k.2.2),
          ))
          (or_cases first second e),
      λ k. ⊎_elim
          (λ h. or_left first second (w.answer.1 (k.0, all_in xs k.0 h, k.2)))
          (λ h. or_right first second (u.answer.1 (
            k.0,
            all_in ys k.0 h,
            (k.2.0, still_old new xs before between first w k.0 k.2.0 (λ g. apart k.0 g h) ∙ k.2.1, k.2.2),
          )))
          (in_either xs ys k.0 (all_from (xs ++ ys) k.0 k.1)),
    );
  }

  -- fields that are not written, and are to keep their sets, may be counted as written
  pub written_wider : (new : Sets) (xs ys : List ℕ) (before after : List R) (changed : Bool) → ((f : ℕ) → In f xs → In f ys)
      → ((f v : ℕ) → In f ys → (In f xs → ⊥) → new f v ≡ sets values before f v)
      → Written values new xs (length xs) before after changed → Written values new ys (length ys) before after changed
  written_wider new xs ys before after changed into keeps w = record {
    long = w.long;
    done = λ f v h. ⊎_elim
        (λ t. now_new new xs before after changed w f v (subst (λ x. In x xs) t.2 t.1))
        (λ none. still_old new xs before after changed w f v (λ k. none f k refl) ∙ sym (keeps f v (all_from ys f h) (λ k. none f k refl)))
        (find (λ x. x) f xs);
    others = λ f d h. w.others f d (λ k. h (all_in ys f (into f (all_from xs f k))));
    answer = (
      λ e. let k = w.answer.0 e in (k.0, all_in ys k.0 (into k.0 (all_from xs k.0 k.1)), k.2),
      λ k. ⊎_elim
          (λ t. w.answer.1 (k.0, all_in xs k.0 (subst (λ x. In x xs) t.2 t.1), k.2))
          (λ none. absurd (both_ways (sets values before k.0 k.2.0) (sym (keeps k.0 k.2.0 (all_from ys k.0 k.1) (λ h. none k.0 h refl)) ∙ k.2.2) k.2.1))
          (find (λ x. x) k.0 xs),
    );
  }

  -- some of the scope is written, and the rest is to keep its sets
  pub some_written : (new : Sets) (scope : List ℕ) (before : List R) (r : Rule) (after : List R) (changed : Bool) → ((f : ℕ) → In f scope → In f r.scope)
      → ((f v : ℕ) → In f r.scope → (In f scope → ⊥) → new f v ≡ sets values before f v) → Written values new scope (length scope) before after changed
      → ((f v : ℕ) → In f r.scope → new f v ≡ true → Supported (sets values before) r f v) → ((f v : ℕ) → In f r.scope → Supported (sets values before) r f v → new f v ≡ true)
      → Narrowing values r before after changed
  some_written new scope before r after changed into keeps w =
      all_written values new r.scope before r after changed refl (written_wider new scope r.scope before after changed into keeps w)

-- ---- rows emptied field by field: a field may stand twice, or have no row

module _ {R : Type 0} (values : R → Values) (row : R) (empty : (v : ℕ) → values row v ≡ false) where
  -- the field that gets an empty row has no value
  emptied_here : (rows : List R) (f v : ℕ) → sets values (set rows f row) f v ≡ false
  emptied_here [] f v = refl
  emptied_here (r ∷ rs) zero v = empty v
  emptied_here (r ∷ rs) (suc f) v = emptied_here rs f v

  -- and one without a value stays without one
  still_empty : (rows : List R) (f g v : ℕ) → sets values rows g v ≡ false → sets values (set rows f row) g v ≡ false
  still_empty [] f g v none = refl
  still_empty (r ∷ rs) zero zero v none = empty v
  still_empty (r ∷ rs) zero (suc g) v none = none
  still_empty (r ∷ rs) (suc f) zero v none = none
  still_empty (r ∷ rs) (suc f) (suc g) v none = still_empty rs f g v none

  -- one field more is emptied
  pub more_emptied : (xs : List ℕ) (f : ℕ) (before between after : List R) (changed lost : Bool) → after ≡ set between f row → Decides lost (Loses values between f (values row))
      → Written values none_left xs (length xs) before between changed → Written values none_left (xs ++ f ∷ []) (length (xs ++ f ∷ [])) before after (changed || lost)
  more_emptied xs f before between after changed lost is loss w = subst (λ rows. Written values none_left (xs ++ f ∷ []) (length (xs ++ f ∷ [])) before rows (changed || lost)) (sym is) (record {
    long = length-set between f row ∙ w.long;
    done = λ g v h. ⊎_elim
        (λ old. still_empty between f g v (now_new values none_left xs before between changed w g v old))
        (λ here. subst (λ x. sets values (set between f row) x v ≡ false) (sym (only here)) (emptied_here between f v))
        (in_either xs (f ∷ []) g (all_from (xs ++ f ∷ []) g h));
    others = λ g d h.
        get_or-set_other between f g row d (λ e. h (all_in (xs ++ f ∷ []) g (in_second xs (f ∷ []) g (inl e))))
        ∙ w.others g d (λ k. h (all_in (xs ++ f ∷ []) g (in_first xs (f ∷ []) g (all_from xs g k))));
    answer = (
      λ e. ⊎_elim
          (λ was. let k = w.answer.0 was in (k.0, all_in (xs ++ f ∷ []) k.0 (in_first xs (f ∷ []) k.0 (all_from xs k.0 k.1)), k.2))
          (λ now. let k = loss.0 now in (f, all_in (xs ++ f ∷ []) f (in_second xs (f ∷ []) f (inl refl)), (k.0, sym (unwritten k.0 k.1) ∙ k.1, refl)))
          (or_cases changed lost e),
      λ k. ⊎_elim
          (λ old. or_left changed lost (w.answer.1 (k.0, all_in xs k.0 old, k.2)))
          (λ here. loses_here k.2.0 (subst (λ x. sets values before x k.2.0 ≡ true) (only here) k.2.1))
          (in_either xs (f ∷ []) k.0 (all_from (xs ++ f ∷ []) k.0 k.1)),
    );
  })
    where
      only : {g : ℕ} → In g (f ∷ []) → g ≡ f
      only (inl e) = e
      only (inr h) = absurd h

      -- the field has lost nothing before, where it has a value
      unwritten : (v : ℕ) → sets values between f v ≡ true → sets values between f v ≡ sets values before f v
      unwritten v e = ⊎_elim
          (λ t. absurd (both_ways (sets values between f v) (now_new values none_left xs before between changed w f v (subst (λ x. In x xs) t.2 t.1)) e))
          (λ none. still_old values none_left xs before between changed w f v (λ h. none f h refl))
          (find (λ x. x) f xs)

      -- a value of the start goes now, or went before
      loses_here : (v : ℕ) → sets values before f v ≡ true → (changed || lost) ≡ true
      loses_here v e = ⊎_elim
          (λ t. or_left changed lost (w.answer.1 (f, all_in xs f (subst (λ x. In x xs) t.2 t.1), (v, e, refl))))
          (λ none. or_right changed lost (loss.1 (v, still_old values none_left xs before between changed w f v (λ h. none f h refl) ∙ e, empty v)))
          (find (λ x. x) f xs)
