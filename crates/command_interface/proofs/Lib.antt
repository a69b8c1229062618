mod AskedLaws
