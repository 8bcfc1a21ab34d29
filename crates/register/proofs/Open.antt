-- The open trace of a register.
use Rattle.std.proofs.Common.{◌≡◌, ℕ, zero, suc, ◌+◌, ◌≤◌, Bool, true, false, cond, leb, List, [], ◌∷◌, ◌++◌, map, length, get_or, Some, None, vec_items, vec_len, sym, refl, ap, ◌∙◌, ap₂, arith}
use Rattle.std.proofs.lemmas.Bool.{true≢false, le-leb, cond-true}
use Rattle.bottoms.specs.Records.{Instant, bounded, codes}
use Rattle.register.specs.Bounds.{Coded}
use Rattle.register.specs.Calls.{wrong, noted}
use Rattle.register.specs.Contents.{coded_trace}
use Rattle.register.specs.Limits.{max_instants, last_code}
use Rattle.register.specs.State.{state}
use Rattle.register.specs.declared.register.Register.{Register}

-- a slip that is not wrong belongs to an open trace
pub right_live : (r : Register) (s : ℕ) → wrong r.mark s (state r).opened ≡ false → r.live ≡ true
right_live r s = go r.live
  where
    go : (b : Bool) → wrong r.mark s (cond b (Some (vec_items r.codes)) None) ≡ false → b ≡ true
    go true e = refl
    go false e = absurd (true≢false e)

-- the codes noted in it
pub noted_live : (r : Register) → r.live ≡ true → noted (state r).opened ≡ vec_items r.codes
noted_live r e = ap (λ b. noted (cond b (Some (vec_items r.codes)) None)) e

-- how many there are
pub noted_len : (r : Register) → r.live ≡ true → length (noted (state r).opened) ≡ vec_len r.codes
noted_len r e = ap length (noted_live r e) ∙ sym r.codes.ok.0

-- the open trace with one code more
pub opened_more : (r : Register) (u : List ℕ) (x : ℕ) → r.live ≡ true → u ≡ vec_items r.codes ++ (x ∷ [])
    → cond r.live (Some u) None ≡ Some (noted (state r).opened ++ (x ∷ []))
opened_more r u x e f =
    ap (λ b. cond b (Some u) None) e ∙ ap Some (f ∙ ap (λ t. t ++ (x ∷ [])) (sym (noted_live r e)))

-- codes that name symbols, with one more
pub coded_more : (cs ds : List ℕ) (x : ℕ) → Coded cs → x ≤ last_code → ds ≡ cs ++ (x ∷ []) → Coded ds
coded_more cs ds x h low e k = rw e (go cs h k)
  where
    go : (bs : List ℕ) → Coded bs → (i : ℕ) → get_or (bs ++ (x ∷ [])) i 0 ≤ last_code
    go [] f zero = low
    go [] f (suc i) = omega arith
    go (b ∷ bs) f zero = f zero
    go (b ∷ bs) f (suc i) = go bs (λ j. f (suc j)) i

-- the instants of codes that name symbols
instants_are : (p : ℕ) (cs : List ℕ) → Coded cs → map (λ (x : Instant). x.reading) (codes p cs) ≡ coded_trace cs
unfolding coded_trace
instants_are p [] h = refl
instants_are p (c ∷ cs) h =
    ap₂ ◌∷◌ (cond-true (leb c 63) _ _ (le-leb c 63 (h zero))) (instants_are (p + 1) cs (λ k. h (suc k)))

-- the trace that a record of such codes stands for
pub codes_trace : (cs : List ℕ) → Coded cs → length cs ≤ max_instants → bounded (codes 0 cs) ≡ coded_trace cs
codes_trace cs h few =
    cond-true (leb (length (codes 0 cs)) 1024) _ _ (le-leb (length (codes 0 cs)) 1024 (omega (arith, long 0 cs)))
    ∙ instants_are 0 cs h
  where
    long : (p : ℕ) (ds : List ℕ) → length (codes p ds) ≡ length ds
    long p [] = refl
    long p (d ∷ ds) = ap suc (long (p + 1) ds)

-- the codes of the open trace, read as a record, are its trace
pub closing_trace : (r : Register) → r.live ≡ true → (bytes : List ℕ) → bytes ≡ vec_items r.codes
    → bounded (codes 0 bytes) ≡ coded_trace (noted (state r).opened)
closing_trace r live bytes e =
    ap (λ cs. bounded (codes 0 cs)) e
    ∙ codes_trace (vec_items r.codes) r.coded (omega (arith, r.codes.ok.0, r.room))
    ∙ ap coded_trace (sym (noted_live r live))
