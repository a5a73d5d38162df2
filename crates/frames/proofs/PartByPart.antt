-- The steps over the parts of a frame, one part at a time. Assumes nothing.
use Rattle.std.proofs.Common.{◌≡◌, ℕ, ◌+◌, ◌<◌, Bool, ◌||◌, List, length, get_or, take, set, Decides, sym, ap, ◌∙◌, subst, ⊎_elim, arith}
use Rattle.std.proofs.lemmas.List.{length-map, get_or-map, take-map}
use Rattle.rows.specs.Values.{Values, LeastOf}
use Rattle.rules.specs.Books.{sets, Loses}
use Rattle.rules.specs.Rules.{Sets, In}
use Rattle.rules.proofs.Fields.{in_at, front_more, front_apart}
use Rattle.rules.proofs.RowSets.{sets_same}
use Rattle.rules.specs.Writes.{Written, OwnRows}
use Rattle.rules.proofs.WrittenBack.{more_written}
use Rattle.frames.specs.Parts.{fields, low, Summed}
use Rattle.frames.specs.declared.record.Part.{Part}
use Rattle.frames.proofs.Leasts.{least_is}
use Rattle.frames.proofs.Totals.{more_total}

-- the part at place i, as the code reads it
abbrev pub part_at : List Part → ℕ → Part
part_at parts i = get_or parts i (record { field = 0; load = 0 })

module _ (parts : List Part) (i : ℕ) (within : i < length parts) where
  -- there are as many fields as parts
  pub within_fields : i < length (fields parts)
  within_fields = omega (arith, length-map parts (λ p. p.field))

  -- the field of part i
  pub field_is : get_or (fields parts) i 0 ≡ (part_at parts i).field
  field_is = get_or-map (λ p. p.field) parts i _ 0 within

  pub field_in : In (part_at parts i).field (fields parts)
  field_in = subst (λ f. In f (fields parts)) field_is (in_at (fields parts) i 0 within_fields)

  -- one part more is summed up
  pub more_summed : (S : Sets) (s least : ℕ) → Summed S (take i parts) s → LeastOf (S (part_at parts i).field) least → least < 256
      → Summed S (take (i + 1) parts) (s + ((part_at parts i).load + least))
  more_summed S s least sums found small = record {
    some = λ f h. ⊎_elim
        (λ old. sums.some f (subst (In f) (take-map (λ p. p.field) i parts) old))
        (λ e. subst (λ x. LeastOf (S x) (low S x)) (sym (e ∙ field_is)) (subst (LeastOf (S (part_at parts i).field)) (sym is) found))
        (front_more (fields parts) i 0 f within_fields (subst (In f) (sym (take-map (λ p. p.field) (i + 1) parts)) h));
    total = omega (arith, sums.total, is, more_total S parts i (record { field = 0; load = 0 }) within);
  }
    where
      is : low S (part_at parts i).field ≡ least
      is = least_is 256 (S (part_at parts i).field) least small found

  module _ {R : Type 0} (values : R → Values) (new : Sets) (before after : List R) (changed : Bool) (own : OwnRows (fields parts) (length before))
      (w : Written values new (fields parts) i before after changed) where
    -- the row of part i is the one of the start
    pub not_yet : (v : ℕ) → sets values after (part_at parts i).field v ≡ sets values before (part_at parts i).field v
    not_yet = sets_same values before after (part_at parts i).field w.long
        (λ x. w.others (part_at parts i).field x (λ k. front_apart (fields parts) i 0 within_fields own.distinct (subst (λ f. In f (take i (fields parts))) (sym field_is) k)))

    -- and gets its new set
    pub part_written : (after' : List R) (lost : Bool) (row : R) → ((v : ℕ) → values row v ≡ new (part_at parts i).field v)
        → after' ≡ set after (part_at parts i).field row → Decides lost (Loses values after (part_at parts i).field (values row))
        → Written values new (fields parts) (i + 1) before after' (changed || lost)
    part_written after' lost row reads is loss =
        subst (λ rows. Written values new (fields parts) (i + 1) before rows (changed || lost)) (ap (λ f. set after f row) field_is ∙ sym is)
        (more_written values new (fields parts) before i after changed lost row within_fields own.distinct (own.below _ (in_at (fields parts) i 0 within_fields)) w
        (λ v. reads v ∙ ap (λ f. new f v) (sym field_is))
        (subst (λ f. Decides lost (Loses values after f (values row))) (sym field_is) loss))
