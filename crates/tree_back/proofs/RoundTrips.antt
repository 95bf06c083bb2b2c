-- No second answer, and the two round trips: by the one source that a listing and values have. Assumes nothing.
use mathlib.Core.Path.{◌≡◌, refl, sym, ap, subst, ◌∙◌}
use Prim.Native.Nat.{ℕ, ◌*◌, ◌/◌, ◌≤◌}
use native.Mathlib.Omega.{arith}
use mathlib.Core.Bool.{Bool, true, false, cond}
use mathlib.Core.List.{List}
use borrow.Author.Tests.{le-ltb, ltb-false}
use lib.Dec.{ltb}
use lib.ListN.{length, take}
use lib.Seq.{sets}
use Rattle.ground.proofs.Stores.{stored_first}
use Rattle.std.specs.Prelude.{Result, Ok, Err}
use Rattle.tree.specs.declared.Refusal.{Refusal}
use Rattle.tree.specs.Heads.{refuse}
use Rattle.tree.specs.Listing.{Entry, Out, took, refused, listing}
use Rattle.tree.specs.Answers.{words, count_of, answered, filled, tree_answer, tree_room}
use Rattle.tree.specs.Trees.{Below, plain_of, entries_of}
use Rattle.tree.proofs.Whole.{listed}
use Rattle.tree.proofs.Words.{length_words}
use Rattle.tree_back.specs.declared.BackError.{BackError}
use Rattle.tree_back.specs.Sources.{Those, Back, wrote, small, none-such}
use Rattle.tree_back.specs.Glue.{glued}
use Rattle.tree_back.proofs.WritesBack.{room_is, writes_back}

-- ---- a listing and values have one source
pub one_source : (ws vs b c : List ℕ) → Those ws vs b → Those ws vs c → b ≡ c
one_source ws vs b c p q =
    let e : glued b ≡ glued c = sym (writes_back ws vs b p).0 ∙ (writes_back ws vs c q).0 in
    cc

pub back_once : (ws vs room : List ℕ) (r q : Result ℕ BackError) (after last : List ℕ) → Back ws vs room r after → Back ws vs room q last → (r ≡ q) × (after ≡ last)
back_once ws vs room r q after last (wrote b t h a e) (wrote c u k g f) =
    let s = one_source ws vs b c t u in
    (a ∙ ap (λ (l : List ℕ). Ok (length l)) s ∙ sym g, e ∙ ap (sets room 0) s ∙ sym f)
back_once ws vs room r q after last (wrote b t h a e) (small c u k g f) = absurd (omega (arith, ap length (one_source ws vs b c t u)))
back_once ws vs room r q after last (wrote b t h a e) (none-such n g f) = absurd (n b t)
back_once ws vs room r q after last (small b t h a e) (wrote c u k g f) = absurd (omega (arith, ap length (one_source ws vs b c t u)))
back_once ws vs room r q after last (small b t h a e) (small c u k g f) = (a ∙ sym g, e ∙ sym f)
back_once ws vs room r q after last (small b t h a e) (none-such n g f) = absurd (n b t)
back_once ws vs room r q after last (none-such n a e) (wrote c u k g f) = absurd (n c u)
back_once ws vs room r q after last (none-such n a e) (small c u k g f) = absurd (n c u)
back_once ws vs room r q after last (none-such n a e) (none-such m g f) = (a ∙ sym g, e ∙ sym f)

-- ---- what an answer of the listing says
record Listed (b room : List ℕ) (k : ℕ) : Type 0 where
  short : length b ≤ 4096
  es : List Entry
  used : ℕ
  lists : listing 1 0 b ≡ took es used
  count : length es ≡ k
  fits : 4 * length es ≤ length room
  after : tree_room b room ≡ sets room 0 (words es)

module _ (b room : List ℕ) (k : ℕ) where
  no_listing : {A : Type 0} (x p : ℕ) → refuse x p ≡ listed k → A
  no_listing x p e = absurd (let z : ◌≡◌ {A = ℕ} 0 1 = cc in omega arith)

  by-room : (es : List Entry) (u : ℕ) → listing 1 0 b ≡ took es u → length b ≤ 4096 → (q : Bool) → ltb (length room) (4 * length es) ≡ q
      → cond q (refuse 55 0) (listed (length es)) ≡ listed k → Listed b room k
  unfolding tree_room filled
  by-room es u l h true r e = no_listing 55 0 e
  by-room es u l h false r e =
      record {
        short = h;
        es = es;
        used = u;
        lists = l;
        count = ap count_of e;
        fits = ltb-false (length room) (4 * length es) r;
        after = rw (le-ltb 4096 (length b) h, l, r);
      }

  by_out : (o : Out) → listing 1 0 b ≡ o → length b ≤ 4096 → answered o (length room) ≡ listed k → Listed b room k
  unfolding answered
  by_out (took es u) l h e = by-room es u l h (ltb (length room) (4 * length es)) refl e
  by_out (refused x p) l h e = no_listing x p e

  by_size : (q : Bool) → ltb 4096 (length b) ≡ q → cond q (refuse 54 0) (answered (listing 1 0 b) (length room)) ≡ listed k → Listed b room k
  by_size true h e = no_listing 54 0 e
  by_size false h e = by_out (listing 1 0 b) refl (ltb-false 4096 (length b) h) e

  listed-as : tree_answer b room ≡ listed k → Listed b room k
  unfolding tree_answer
  listed-as e = by_size (ltb 4096 (length b)) refl e

  -- the first words of the room and the plain values have the bytes as their source
  source : Below 256 b → Listed b room k → Those (take (k * 4) (tree_room b room)) (plain_of b (entries_of (listing 1 0 b))) b
  source o l =
      let w : take (k * 4) (tree_room b room) ≡ words l.es =
      ap (λ (n : ℕ). take (n * 4) (tree_room b room)) (sym l.count) ∙ (ap (take (length l.es * 4)) l.after ∙ room_is b l.es l.used l.short l.lists room l.fits) in
      record { short = l.short; bytes = o; es = l.es; used = l.used; listed = l.lists; are_words = sym w; are_values = rw l.lists }

-- ---- write after list: a listing and the plain values are written back as the bytes that were listed
pub write_after_list : (b room out : List ℕ) (k : ℕ) (r : Result ℕ BackError) (last : List ℕ) → Below 256 b → tree_answer b room ≡ listed k → length b ≤ length out
    → Back (take (k * 4) (tree_room b room)) (plain_of b (entries_of (listing 1 0 b))) out r last → (r ≡ Ok (length b)) × (last ≡ sets out 0 b)
write_after_list b room out k r last o e h w =
    let t = source b room k o (listed-as b room k e) in
    back_once (take (k * 4) (tree_room b room)) (plain_of b (entries_of (listing 1 0 b))) out r (Ok (length b)) last (sets out 0 b) w (wrote b t h refl refl)

-- ---- list after write: what was written back is listed as it was, with its plain values
pub record Restored (ws vs b room : List ℕ) : Type 0 where
  pub count : tree_answer b room ≡ listed (length ws / 4)
  pub listing_is : tree_room b room ≡ sets room 0 ws
  pub values_are : plain_of b (entries_of (listing 1 0 b)) ≡ vs

restored : (ws vs b room : List ℕ) → Those ws vs b → length ws ≤ length room → Restored ws vs b room
unfolding tree_answer tree_room answered filled
restored ws vs b room t h =
    let n : length ws ≡ 4 * length t.es = sym (ap length t.are_words) ∙ length_words t.es in
    let c : length ws / 4 ≡ length t.es = omega arith in
    let s = le-ltb 4096 (length b) t.short in
    let f = le-ltb (length room) (4 * length t.es) (omega arith) in
    record {
      count = rw (s, t.listed, f, c);
      listing_is = rw (s, t.listed, f) (ap (sets room 0) t.are_words);
      values_are = rw t.listed t.are_values;
    }

abbrev size_of : Result ℕ BackError → ℕ
size_of (Ok n) = n
size_of (Err e) = 0

pub list_after_write : (ws vs out room : List ℕ) (n : ℕ) (last : List ℕ) → Back ws vs out (Ok n) last → length ws ≤ length room → Restored ws vs (take n last) room
list_after_write ws vs out room n last (wrote b t h a e) k =
    let s : n ≡ length b = ap size_of a in
    let same : take n last ≡ b = rw e (stored_first out b n s (omega arith)) in
    subst (λ (l : List ℕ). Restored ws vs l room) (sym same) (restored ws vs b room t k)
list_after_write ws vs out room n last (small b t h a e) k = absurd (let z : ◌≡◌ {A = ℕ} 0 1 = cc in omega arith)
list_after_write ws vs out room n last (none-such m a e) k = absurd (let z : ◌≡◌ {A = ℕ} 0 1 = cc in omega arith)
