-- What a register tells and what its disk stands for after a compare-and-set.
use Rattle.std.proofs.Common.{◌≡◌, ℕ, Bool, true, false, if◌then◌else◌, List, refl, inl, Option, None, Some, Result, Ok, Err, subst}
use Rattle.std.specs.Prelude.{OnOk}
use Rattle.disk_model.specs.File.{IsImage}
use Rattle.disk_model.specs.History.{History, EachMoment}
use Rattle.disk_model.proofs.Moments.{now_has}
use Rattle.session_register.specs.Registers.{cas_answer, number_after}
use Rattle.session_register.specs.Values.{StandsFor, EachLeftStandsForEither}

-- what tells goes on telling
pub still_told : (old new : Option ℕ) (f : ℕ → ℕ) → ((n : ℕ) → old ≡ Some n → new ≡ Some (f n)) → new ≡ None → old ≡ None
still_told None new f after none = refl
still_told (Some n) new f after none = absurd (let e = after n refl in cc)

-- the number that is told
number_is : (failed : Bool) (number n : ℕ) → (if failed then None else Some number) ≡ Some n → number ≡ n
number_is true number n e = absurd (cc)
number_is false number n e = cc

works : (failed : Bool) (number n : ℕ) → (if failed then None else Some number) ≡ Some n → failed ≡ false
works true number n e = absurd (cc)
works false number n e = refl

-- each image stands for the number that is told
pub disk_stands : {X E : Type 0} (result : Result X E) (failed : Bool) (number from : ℕ) (old : Option ℕ) (tells : Type 0) (Image : List ℕ → Type 0) (Before : ℕ → Type 0) →
    ((n : ℕ) → old ≡ Some n → OnOk result ((if failed then None else Some number) ≡ Some (number_after n (cas_answer n from)))) →
    OnOk result (tells → (image : List ℕ) → Image image → StandsFor image number) →
    OnOk result ((n : ℕ) → old ≡ Some n → Before n → tells → (image : List ℕ) → Image image → StandsFor image (number_after n (cas_answer n from)))
disk_stands (Ok x) failed number from old tells Image Before after images =
    λ n e before t image is. subst (λ (m : ℕ). StandsFor image m) (number_is failed number (number_after n (cas_answer n from)) (after n e)) (images t image is)
disk_stands (Err e) failed number from old tells Image Before after images = tt

-- whatever a crash may leave stands for the number of before, or for the one after
pub disk_leaves : (plain : Type 0) (failed : Bool) (number from n : ℕ) (old new : History) → (if failed then None else Some number) ≡ Some n →
    (failed ≡ false → EachMoment 0 (EachLeftStandsForEither plain number (number_after number (cas_answer number from))) old new) →
    ((image : List ℕ) → IsImage (old.now 0) image → StandsFor image n) →
    EachLeftStandsForEither plain n (number_after n (cas_answer n from)) (new.now 0)
disk_leaves plain failed number from n old new told each before =
    now_has 0 (EachLeftStandsForEither plain n (number_after n (cas_answer n from))) old new
    (subst (λ (m : ℕ). EachMoment 0 (EachLeftStandsForEither plain m (number_after m (cas_answer m from))) old new) (number_is failed number n told) (each (works failed number n told)))
    (λ c left. inl (before c left.image))
